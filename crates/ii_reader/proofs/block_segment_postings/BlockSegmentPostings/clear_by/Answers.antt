use Rattle.ii_reader.proofs.BlockLemmas.{held_by, none_loaded}
use Rattle.ii_reader.proofs.block_segment_postings.BlockSegmentPostings.clear_by.Goals as goal

pub invariant_of-self : goal.invariant_of-self
invariant_of-self c =
    let empty = c.empty.ensures in
    let none = c.none-self-inside.result in
    let now = held_by c.skip_reader-self-inside.result c.with_val-self-inside.result c.with_val-self-inside-2.result none.docs.blocks none.freqs.blocks in
    none_loaded c.empty.result now empty.has empty.documents empty.freqs c.skip_reader-self-inside.ensures.at c.skip_reader-self-inside.ensures.first c.with_val-self-inside.ensures c.with_val-self-inside-2.ensures c.none-self-inside.ensures.0 c.none-self-inside.ensures.1
