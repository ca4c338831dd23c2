use Rattle.std.proofs.Common.{subst, ap, arith}
use Rattle.ii_check.specs.CheckedPostings.{HasDocuments}
use Rattle.ii_check.proofs.CheckedPostingsLemmas.{asked, are_given, has_documents}
use Rattle.ii_check.proofs.PositionLemmas.{counted_all, last_few, last_row, some_counts, sum_low, where_some}
use Rattle.ii_check.proofs.checked_postings.CheckedPostings.num_positions.Goals as goal

pub overflow_add-result : goal.overflow_add-result
overflow_add-result c =
    let s = c.self.inside in
    let p = c.args.self.now in
    let given = are_given (asked s.record_option s.requested_option s.doc_freq s.bytes s.places.skip_info s.places.entries s.places.body) s.freq_reading_option c.self.invariant in
    let has : HasDocuments p = subst (λ p. HasDocuments p) c.self.view_is (has_documents _ given) in
    let freq = ap (λ p. p.doc_freq) c.self.view_is in
    let fs = some_counts p.postings.freqs c.requires.read in
    let are = has.freqs fs.0 fs.1 in
    let many = are.many in
    let low = sum_low fs.0 are.low in
    let here = c.loop-block.invariant.block in
    let over = c.loop-block-test.false in
    let most = c.loop-block.auto._block-end in
    let all = counted_all p c.loop-block.skip fs.0 c.args.last_freqs.now c.position_offset.result c.sum_of.result has c.loop-block.invariant.at (omega arith) c.requires.recorded fs.1 (last_row p.postings.freqs _ fs.0 c.args.last_freqs.now fs.1 c.requires.last)
    c.position_offset.ensures c.sum_of.ensures.sum
    in omega arith

pub returns : goal.returns
returns c =
    let s = c.self.inside in
    let p = c.args.self.now in
    let given = are_given (asked s.record_option s.requested_option s.doc_freq s.bytes s.places.skip_info s.places.entries s.places.body) s.freq_reading_option c.self.invariant in
    let has : HasDocuments p = subst (λ p. HasDocuments p) c.self.view_is (has_documents _ given) in
    let freq = ap (λ p. p.doc_freq) c.self.view_is in
    let here = c.loop-block.invariant.block in
    let over = c.loop-block-test.false in
    let most = c.loop-block.auto._block-end in
    where_some p.postings.freqs _
    (λ fs e.
    counted_all p c.loop-block.skip fs c.args.last_freqs.now c.position_offset.result c.sum_of.result has c.loop-block.invariant.at (omega arith) c.requires.recorded e (last_row p.postings.freqs _ fs c.args.last_freqs.now e c.requires.last)
    c.position_offset.ensures c.sum_of.ensures.sum)

pub sum_of-requires : goal.sum_of-requires
sum_of-requires c = let few = last_few c.args.self.now.postings.freqs _ c.args.last_freqs.now c.requires.last in omega arith
