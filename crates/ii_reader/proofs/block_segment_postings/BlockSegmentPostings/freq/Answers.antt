use Rattle.std.proofs.Common.{sym, ap, ◌∙◌}
use Rattle.ii_check.specs.CheckedPostings.{is_read}
use Rattle.ii_reader.proofs.BlockLemmas.{freq_held, freq_within}
use Rattle.ii_reader.proofs.block_segment_postings.BlockSegmentPostings.freq.Goals as goal

pub output-requires : goal.output-requires
output-requires c =
    let s = c.self.inside in
    let some = c.self.invariant.has.read ∙ sym (c.is_read.ensures ∙ ap is_read c.freq_reading_option.ensures) ∙ c.if-not-is_read.false in
    freq_within s.checked.postings.freqs s.checked.postings.docs s.skip.block c.args.idx some (rw (← c.self.view_is) at c.requires)

pub returns : goal.returns
returns c =
    let s = c.self.inside in
    let p = s.checked.postings in
    let some = c.self.invariant.has.read ∙ sym (c.is_read.ensures ∙ ap is_read c.freq_reading_option.ensures) ∙ c.if-not-is_read.false in
    rw (← c.self.view_is)
    (freq_held p.freqs p.docs s.checked.doc_freq s.skip.block c.args.idx c.output.result s.freq_decoder c.self.invariant.freqs_held some c.self.invariant.has.many c.self.invariant.has.freqs (rw (← c.self.view_is) at c.requires) c.output.ensures)
