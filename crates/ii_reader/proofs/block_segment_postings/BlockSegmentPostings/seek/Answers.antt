use Rattle.ii_reader.proofs.SeekLemmas.{is_sought}
use Rattle.ii_reader.proofs.block_segment_postings.BlockSegmentPostings.seek.Goals as goal

pub returns-clause-sought : goal.returns-clause-sought
returns-clause-sought c =
    let same = c.seek_block.ensures.goes.docs in
    is_sought c.args.target c.args.self.now.docs c.args.self.now.block c.seek_block.new.self.block c.seek_within_block.result
    (record { up = rw same at c.seek_block.ensures.entries.ascending; seeks = c.seek_block.ensures.seeks; counts = rw same at c.seek_within_block.ensures.below })
