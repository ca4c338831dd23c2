use Rattle.std.proofs.Common.{sym, ap, ◌∙◌}
use Rattle.ii_base.specs.Options.{has_freq}
use Rattle.ii_layout.specs.SkipList.{SkipList}
use Rattle.ii_check.proofs.CheckedPostingsLemmas.{asked, given_skip}
use Rattle.ii_check.proofs.checked_postings.CheckedPostings.has_freq.Goals as goal

pub returns : goal.returns
returns c =
    let s = c.self.inside in
    let skip = given_skip (asked s.record_option s.requested_option s.doc_freq s.bytes s.places.skip_info s.places.entries s.places.body) s.freq_reading_option c.self.invariant in
    rw (← c.self.view_is) (c.has_freq.ensures ∙ sym (ap (λ (l : SkipList). has_freq l.skip_info) skip))
