use Rattle.std.proofs.Common.{◌∙◌, ap}
use Rattle.ii_recorder.proofs.RecorderLemmas.{all_closed}
use Rattle.ii_recorder.proofs.StateLemmas.{positions_ended}
use Rattle.ii_recorder.proofs.recorder.TfAndPositionRecorderRecorder.close_doc.Goals as goal

pub invariant_of-self-2 : goal.invariant_of-self-2
invariant_of-self-2 c =
    let some = rw (← c.self.view_is) at c.requires in
    (positions_ended c.self.inside.positions.items c.write_u32_vint.new.output.items c.self.inside.last c.self.inside.term_freq c.self.inside.last_position c.self.inside.doc_freq c.self.invariant some c.in_ok-write_u32_vint.ensures.ok).keeps

pub returns-clause-ok : goal.returns-clause-ok
returns-clause-ok c =
    let some = rw (← c.self.view_is) at c.requires in
    (positions_ended c.self.inside.positions.items c.write_u32_vint.new.output.items c.self.inside.last c.self.inside.term_freq c.self.inside.last_position c.self.inside.doc_freq c.self.invariant some c.in_ok-write_u32_vint.ensures.ok).state
    ∙ ap all_closed c.self.view_is
