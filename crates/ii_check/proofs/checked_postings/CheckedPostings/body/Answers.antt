use Rattle.ii_check.proofs.CheckedPostingsLemmas.{asked, are_given, given_body}
use Rattle.std.proofs.Common.{sym, ap, ◌∙◌, drop}
use Rattle.ii_check.proofs.checked_postings.CheckedPostings.body.Goals as goal

pub returns-clause-body : goal.returns-clause-body
returns-clause-body c =
    let s = c.self.inside in
    let body = given_body (asked s.record_option s.requested_option s.doc_freq s.bytes s.places.skip_info s.places.entries s.places.body) s.freq_reading_option c.self.invariant in
    c.bytes_from.ensures ∙ ap (drop s.places.body) c.as_slice.ensures ∙ (rw (← c.self.view_is) (sym body))

pub returns-clause-given : goal.returns-clause-given
returns-clause-given c =
    let s = c.self.inside in
    rw (← c.self.view_is) (are_given (asked s.record_option s.requested_option s.doc_freq s.bytes s.places.skip_info s.places.entries s.places.body) s.freq_reading_option c.self.invariant)
