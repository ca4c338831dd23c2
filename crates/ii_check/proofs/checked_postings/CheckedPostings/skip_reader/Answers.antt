use Rattle.ii_check.proofs.CheckedPostingsLemmas.{asked, begins, has_room}
use Rattle.ii_check.proofs.checked_postings.CheckedPostings.skip_reader.Goals as goal

pub returns-clause-at : goal.returns-clause-at
returns-clause-at c =
    let s = c.self.inside in
    rw (← c.self.view_is)
    (begins (asked s.record_option s.requested_option s.doc_freq s.bytes s.places.skip_info s.places.entries s.places.body) s.freq_reading_option c.skip_data.result.now c.new.result c.self.invariant (rw (← c.self.view_is) at c.skip_data.ensures.entries) c.new.ensures)

pub new-requires : goal.new-requires
new-requires c =
    let s = c.self.inside in
    has_room (asked s.record_option s.requested_option s.doc_freq s.bytes s.places.skip_info s.places.entries s.places.body) s.freq_reading_option c.skip_data.result.now c.self.invariant (rw (← c.self.view_is) at c.skip_data.ensures.entries)
