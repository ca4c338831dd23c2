use Rattle.std.proofs.Common.{◌∙◌, ap, arith}
use Rattle.ii_recorder.proofs.RecorderLemmas.{all_closed}
use Rattle.ii_recorder.proofs.StateLemmas.{counts_ended}
use Rattle.ii_recorder.proofs.recorder.TermFrequencyRecorderRecorder.close_doc.Goals as goal

pub invariant_of-self-2 : goal.invariant_of-self-2
invariant_of-self-2 c =
    let some = rw (← c.self.view_is) at c.requires in
    (counts_ended c.self.inside.counts.items c.write_u32_vint.new.output.items c.self.inside.last c.self.inside.term_freq c.self.inside.doc_freq c.self.invariant some (omega arith) c.in_ok-write_u32_vint.ensures.ok).keeps

pub returns-clause-ok : goal.returns-clause-ok
returns-clause-ok c =
    let some = rw (← c.self.view_is) at c.requires in
    (counts_ended c.self.inside.counts.items c.write_u32_vint.new.output.items c.self.inside.last c.self.inside.term_freq c.self.inside.doc_freq c.self.invariant some (omega arith) c.in_ok-write_u32_vint.ensures.ok).state ∙ ap all_closed c.self.view_is
