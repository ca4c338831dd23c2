use Rattle.std.proofs.Common.{◌+◌, ◌/◌, length, min, arith}
use Rattle.ii_reader.proofs.BlockLemmas.{goes_next, held_by, loaded_lazy, on_goes, on_loaded}
use Rattle.ii_reader.proofs.block_segment_postings.BlockSegmentPostings.advance.Goals as goal

pub invariant_of-self : goal.invariant_of-self
invariant_of-self c =
    let s = c.self.inside in
    let old = held_by s.skip s.doc_decoder s.freq_decoder s.decoded_blocks.docs.blocks s.decoded_blocks.freqs.blocks in
    let new = held_by c.advance.new.skip c.load_block.new.doc_decoder c.load_block.new.freq_decoder c.load_block.new.decoded_blocks.docs.blocks c.load_block.new.decoded_blocks.freqs.blocks in
    on_loaded s.checked old new (goes_next s.checked old new c.self.invariant c.advance.ensures.at c.advance.ensures.block c.load_block.ensures.loads c.load_block.ensures.logs)

pub returns-clause-goes : goal.returns-clause-goes
returns-clause-goes c =
    let s = c.self.inside in
    let many = c.self.invariant.has.many in
    let next = c.advance.ensures.block in
    let old = held_by s.skip s.doc_decoder s.freq_decoder s.decoded_blocks.docs.blocks s.decoded_blocks.freqs.blocks in
    let new = held_by c.advance.new.skip c.load_block.new.doc_decoder c.load_block.new.freq_decoder c.load_block.new.decoded_blocks.docs.blocks c.load_block.new.decoded_blocks.freqs.blocks in
    rw (← c.self.view_is) (on_goes (record { docs = s.checked_blocks.docs.value; freqs = s.checked_blocks.freqs.value }) s.checked old new (min (s.skip.block + 1) (length s.checked.postings.docs / 128 + 1)) (omega arith)
    (goes_next s.checked old new c.self.invariant c.advance.ensures.at next c.load_block.ensures.loads c.load_block.ensures.logs))

pub returns-clause-lazy : goal.returns-clause-lazy
returns-clause-lazy c =
    let s = c.self.inside in
    let old = held_by s.skip s.doc_decoder s.freq_decoder s.decoded_blocks.docs.blocks s.decoded_blocks.freqs.blocks in
    let new = held_by c.advance.new.skip c.load_block.new.doc_decoder c.load_block.new.freq_decoder c.load_block.new.decoded_blocks.docs.blocks c.load_block.new.decoded_blocks.freqs.blocks in
    loaded_lazy (record { docs = s.checked_blocks.docs.value; freqs = s.checked_blocks.freqs.value }) s.checked new
    (on_loaded s.checked old new (goes_next s.checked old new c.self.invariant c.advance.ensures.at c.advance.ensures.block c.load_block.ensures.loads c.load_block.ensures.logs))
