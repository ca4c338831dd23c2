use Rattle.ii_check.proofs.CheckedPostingsLemmas.{asked, are_given, is_skip_data}
use Rattle.std.proofs.Common.{ap, ◌∙◌, drop}
use Rattle.ii_check.proofs.checked_postings.CheckedPostings.skip_data.Goals as goal

pub returns-clause-entries : goal.returns-clause-entries
returns-clause-entries c =
    let s = c.self.inside in
    rw (← c.self.view_is) (is_skip_data (asked s.record_option s.requested_option s.doc_freq s.bytes s.places.skip_info s.places.entries s.places.body) s.freq_reading_option c.bytes_from.result.now c.self.invariant (c.bytes_from.ensures ∙ ap (drop s.places.entries) c.as_slice.ensures))

pub returns-clause-given : goal.returns-clause-given
returns-clause-given c =
    let s = c.self.inside in
    rw (← c.self.view_is) (are_given (asked s.record_option s.requested_option s.doc_freq s.bytes s.places.skip_info s.places.entries s.places.body) s.freq_reading_option c.self.invariant)
