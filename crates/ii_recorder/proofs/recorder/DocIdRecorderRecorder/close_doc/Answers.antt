use Rattle.std.proofs.Common.{ap, ◌∙◌}
use Rattle.ii_recorder.proofs.RecorderLemmas.{all_closed}
use Rattle.ii_recorder.proofs.StateLemmas.{docs_ended}
use Rattle.ii_recorder.proofs.recorder.DocIdRecorderRecorder.close_doc.Goals as goal

pub returns-clause-ok : goal.returns-clause-ok
returns-clause-ok c = (docs_ended c.self.inside.deltas.items c.self.inside.last c.self.inside.is_open c.self.invariant).state ∙ ap all_closed c.self.view_is
