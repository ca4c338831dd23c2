use Rattle.std.proofs.Common.{◌∙◌, ap, arith}
use Rattle.std.specs.Option.{option_map}
use Rattle.ii_recorder.specs.Recorded.{RecorderState, with_position}
use Rattle.ii_recorder.proofs.StateLemmas.{positions_positioned}
use Rattle.ii_recorder.proofs.recorder.TfAndPositionRecorderRecorder.record_position.Goals as goal

pub invariant_of-self-2 : goal.invariant_of-self-2
invariant_of-self-2 c =
    let some = rw (← c.self.view_is) at c.requires in
    (positions_positioned c.self.inside.positions.items c.write_u32_vint.new.output.items c.self.inside.last c.self.inside.term_freq c.self.inside.last_position c.self.inside.doc_freq c.args.position c.self.invariant some (omega arith) (omega arith)
    (omega arith) c.in_ok-write_u32_vint.ensures.ok).keeps

pub returns-clause-ok : goal.returns-clause-ok
returns-clause-ok c =
    let some = rw (← c.self.view_is) at c.requires in
    (positions_positioned c.self.inside.positions.items c.write_u32_vint.new.output.items c.self.inside.last c.self.inside.term_freq c.self.inside.last_position c.self.inside.doc_freq c.args.position c.self.invariant some (omega arith) (omega arith)
    (omega arith) c.in_ok-write_u32_vint.ensures.ok).state
    ∙ ap (λ (s : RecorderState). record s { pending = option_map (with_position s.option c.args.position) s.pending }) c.self.view_is
