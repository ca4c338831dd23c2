use Rattle.std.proofs.Common.{◌<◌, refl, arith}
use Rattle.ii_reader.specs.BlockSegmentPostings.{doc_in_block}
use Rattle.ii_reader.proofs.BlockLemmas.{goes_later, held_by, on_goes, on_loaded, stays_there}
use Rattle.ii_reader.proofs.SeekLemmas.{entries_are, goes_on, seeks_here}
use Rattle.ii_reader.proofs.block_segment_postings.BlockSegmentPostings.seek_block.Goals as goal

pub returns-then-target-doc-clause-seeks : goal.returns-then-target-doc-clause-seeks
returns-then-target-doc-clause-seeks c =
    let last = c.doc.ensures.doc in
    let low = c.if-target-doc.true in
    seeks_here c.args.target c.args.self.now.docs c.args.self.now.block (omega arith)

pub invariant_of-self : goal.invariant_of-self
invariant_of-self c =
    let s = c.self.inside in
    let last = rw (← c.self.view_is) at c.doc.ensures.doc in
    let over = c.if-target-doc.false in
    let high : doc_in_block s.checked.postings.docs s.skip.block 127 < c.args.target = omega arith in
    let later = goes_on c.args.target s.checked.postings.docs s.skip.block c.seek.new.skip.block high c.requires c.seek.ensures.seeks in
    let old = held_by s.skip s.doc_decoder s.freq_decoder s.decoded_blocks.docs.blocks s.decoded_blocks.freqs.blocks in
    let new = held_by c.seek.new.skip c.load_block.new.doc_decoder c.load_block.new.freq_decoder c.load_block.new.decoded_blocks.docs.blocks c.load_block.new.decoded_blocks.freqs.blocks in
    let goes = goes_later s.checked old new c.self.invariant c.seek.ensures.at later c.load_block.ensures.loads c.load_block.ensures.logs in
    on_loaded s.checked old new goes

pub returns-clause-goes : goal.returns-clause-goes
returns-clause-goes c =
    let s = c.self.inside in
    let last = rw (← c.self.view_is) at c.doc.ensures.doc in
    let over = c.if-target-doc.false in
    let high : doc_in_block s.checked.postings.docs s.skip.block 127 < c.args.target = omega arith in
    let later = goes_on c.args.target s.checked.postings.docs s.skip.block c.seek.new.skip.block high c.requires c.seek.ensures.seeks in
    let old = held_by s.skip s.doc_decoder s.freq_decoder s.decoded_blocks.docs.blocks s.decoded_blocks.freqs.blocks in
    let new = held_by c.seek.new.skip c.load_block.new.doc_decoder c.load_block.new.freq_decoder c.load_block.new.decoded_blocks.docs.blocks c.load_block.new.decoded_blocks.freqs.blocks in
    let goes = goes_later s.checked old new c.self.invariant c.seek.ensures.at later c.load_block.ensures.loads c.load_block.ensures.logs in
    rw (← c.self.view_is) (on_goes (record { docs = s.checked_blocks.docs.value; freqs = s.checked_blocks.freqs.value }) s.checked old new c.seek.new.skip.block refl goes)

pub returns-clause-seeks : goal.returns-clause-seeks
returns-clause-seeks c = rw (← c.self.view_is) c.seek.ensures.seeks

pub returns-clause-entries : goal.returns-clause-entries
returns-clause-entries c = entries_are c.self.inside.checked c.self.invariant.has

pub returns-then-target-doc-clause-entries : goal.returns-then-target-doc-clause-entries
returns-then-target-doc-clause-entries c = rw (← c.self.view_is) (entries_are c.self.inside.checked c.self.invariant.has)

pub returns-then-target-doc-clause-goes : goal.returns-then-target-doc-clause-goes
returns-then-target-doc-clause-goes c = stays_there c.args.self.now
