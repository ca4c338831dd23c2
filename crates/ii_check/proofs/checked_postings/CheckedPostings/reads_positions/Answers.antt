use Rattle.std.proofs.Common.{sym, ap, ◌∙◌}
use Rattle.ii_base.specs.Options.{has_positions}
use Rattle.ii_check.proofs.CheckedPostingsLemmas.{asked, are_given}
use Rattle.ii_check.proofs.checked_postings.CheckedPostings.reads_positions.Goals as goal

pub returns-then-has_positions : goal.returns-then-has_positions
returns-then-has_positions c =
    let s = c.self.inside in
    let given = are_given (asked s.record_option s.requested_option s.doc_freq s.bytes s.places.skip_info s.places.entries s.places.body) s.freq_reading_option c.self.invariant in
    let has = sym (c.has_positions.ensures ∙ ap has_positions c.downgrade.ensures) ∙ c.if-has_positions.true in
    rw (← c.self.view_is, has) (c.is_read.ensures ∙ sym given.read)
