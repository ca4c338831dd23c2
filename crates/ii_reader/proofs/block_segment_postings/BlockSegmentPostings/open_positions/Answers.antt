use Rattle.std.proofs.Common.{arith}
use Rattle.ii_reader.proofs.BlockLemmas.{last_held}
use Rattle.ii_reader.proofs.block_segment_postings.BlockSegmentPostings.open_positions.Goals as goal

pub open_counted_positions-requires : goal.open_counted_positions-requires
open_counted_positions-requires c =
    let s = c.self.inside in
    let few = c.if-freqs-lt-COMPRESSION_BLOCK_SIZE.true in
    let all = c.if-freqs-doc_freq.true in
    let count = c.doc_freq.ensures in
    last_held s.checked.postings.freqs s.checked.doc_freq s.skip.block c.output_array-freqs.result.now s.freq_decoder c.self.invariant.freqs_held c.self.invariant.has.freqs c.output_array-freqs.ensures.values (omega arith) (omega arith)

pub returns-clause-checked : goal.returns-clause-checked
returns-clause-checked c =
    let many = c.self.invariant.has.many in
    rw (← c.self.view_is) (rw many c.open_positions.ensures.checked)
