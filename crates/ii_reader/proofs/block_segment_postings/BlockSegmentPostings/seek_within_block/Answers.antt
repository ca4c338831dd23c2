use Rattle.ii_reader.proofs.BlockSearchLemmas.{IsSearched, counted_below, entries_rise, last_high}
use Rattle.ii_reader.proofs.block_segment_postings.BlockSegmentPostings.seek_within_block.Goals as goal

pub seek_within_block-requires-clause-sorted : goal.seek_within_block-requires-clause-sorted
seek_within_block-requires-clause-sorted c =
    let s = c.self.inside in
    entries_rise s.checked.postings.docs s.skip.block s.doc_decoder c.self.invariant.docs_held c.self.invariant.has.ascending

pub seek_within_block-requires-clause-last : goal.seek_within_block-requires-clause-last
seek_within_block-requires-clause-last c =
    let s = c.self.inside in
    let p = s.checked.postings in
    let searched : IsSearched c.args.target p.docs s.skip.block s.doc_decoder =
    record { held = c.self.invariant.docs_held; ascending = c.self.invariant.has.ascending; up_to = c.requires.up_to; last = rw (← c.self.view_is) at c.requires.last }
    in
    last_high c.args.target p.docs s.skip.block s.doc_decoder searched

pub returns-clause-below : goal.returns-clause-below
returns-clause-below c =
    let s = c.self.inside in
    let p = s.checked.postings in
    let searched : IsSearched c.args.target p.docs s.skip.block s.doc_decoder =
    record { held = c.self.invariant.docs_held; ascending = c.self.invariant.has.ascending; up_to = c.requires.up_to; last = rw (← c.self.view_is) at c.requires.last }
    in
    rw (← c.self.view_is, c.seek_within_block.ensures) (counted_below c.args.target p.docs s.skip.block s.doc_decoder searched)
