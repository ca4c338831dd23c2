use Rattle.std.proofs.Common.{◌≡◌, subst}
use Rattle.std.specs.Option.{option_map}
use Rattle.ii_recorder.specs.Recorded.{RecorderState, with_position}
use Rattle.ii_recorder.proofs.StateLemmas.{docs_positioned}
use Rattle.ii_recorder.proofs.recorder.DocIdRecorderRecorder.record_position.Goals as goal

pub returns-clause-ok : goal.returns-clause-ok
returns-clause-ok c =
    subst (λ (s : RecorderState). s ≡ record s { pending = option_map (with_position s.option c.args._position) s.pending }) c.self.view_is (docs_positioned c.self.inside.deltas.items c.self.inside.is_open c.args._position)
