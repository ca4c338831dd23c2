use Rattle.std.proofs.Common.{arith, refl}
use Rattle.ii_reader.proofs.BlockLemmas.{goes_later, held_by, on_goes, on_loaded}
use Rattle.ii_reader.proofs.BoundLemmas.{lands, passes}
use Rattle.ii_reader.proofs.block_segment_postings.BlockSegmentPostings.next_with_freq.Goals as goal

pub seek_with_freq-requires-clause-full : goal.seek_with_freq-requires-clause-full
seek_with_freq-requires-clause-full c =
    let s = c.self.inside in
    let many = c.self.invariant.has.many in
    let full = rw (← c.self.view_is) at c.requires.full in
    omega arith

pub invariant_of-self : goal.invariant_of-self
invariant_of-self c =
    let s = c.self.inside in
    let old = held_by s.skip s.doc_decoder s.freq_decoder s.decoded_blocks.docs.blocks s.decoded_blocks.freqs.blocks in
    let new = held_by c.seek_with_freq.new.skip c.load_block.new.doc_decoder c.load_block.new.freq_decoder c.load_block.new.decoded_blocks.docs.blocks c.load_block.new.decoded_blocks.freqs.blocks in
    let goes = goes_later s.checked old new c.self.invariant c.seek_with_freq.ensures.at c.seek_with_freq.ensures.seeks.behind c.load_block.ensures.loads c.load_block.ensures.logs in
    on_loaded s.checked old new goes

pub returns-clause-goes : goal.returns-clause-goes
returns-clause-goes c =
    let s = c.self.inside in
    let old = held_by s.skip s.doc_decoder s.freq_decoder s.decoded_blocks.docs.blocks s.decoded_blocks.freqs.blocks in
    let new = held_by c.seek_with_freq.new.skip c.load_block.new.doc_decoder c.load_block.new.freq_decoder c.load_block.new.decoded_blocks.docs.blocks c.load_block.new.decoded_blocks.freqs.blocks in
    let goes = goes_later s.checked old new c.self.invariant c.seek_with_freq.ensures.at c.seek_with_freq.ensures.seeks.behind c.load_block.ensures.loads c.load_block.ensures.logs in
    rw (← c.self.view_is) (on_goes (record { docs = s.checked_blocks.docs.value; freqs = s.checked_blocks.freqs.value }) s.checked old new c.seek_with_freq.new.skip.block refl goes)

pub returns-clause-passes : goal.returns-clause-passes
returns-clause-passes c = λ fs e.
    let s = c.self.inside in
    rw (← c.self.view_is) (passes c.args.target c.args.least s.skip.block c.seek_with_freq.new.skip.block s.checked fs c.self.invariant.has (rw (← c.self.view_is) at e) c.seek_with_freq.ensures.seeks)

pub returns-clause-lands : goal.returns-clause-lands
returns-clause-lands c =
    let s = c.self.inside in
    rw (← c.self.view_is) (lands s.checked c.args.target c.args.least s.skip.block c.seek_with_freq.new.skip.block c.self.invariant.has c.seek_with_freq.ensures.seeks)
