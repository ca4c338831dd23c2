-- What holds for a field's terms after one is ended.
use Rattle.std.proofs.Common.{◌+◌, ◌^◌, ◌<◌, length, ⊎_elim, arith}
use Rattle.ii_layout.specs.Written.{written_postings}
use Rattle.ii_recorder.specs.Terms.{positions_bytes}
use Rattle.ii_recorder.specs.FieldTerms.{EndsTerm, FieldTermsState, IsWithinLimits}

-- a term that was ended passed no limit
pub ends_within : (old new : FieldTermsState) → EndsTerm old new → IsWithinLimits old
ends_within old new h =
    let few = h.short.0 in
    let few_too = h.short.1 in
    let place = h.places in
    let low : old.places.postings_end + length (written_postings old.term.norms old.term.skip_info old.term.docs old.term.freqs) < 2 ^ 56 = rw place at h.within.0 in
    let low_too : old.places.positions_end + length (positions_bytes old.term.mode old.term.deltas) < 2 ^ 56 = rw place at h.within.1 in
    (λ long. ⊎_elim (λ a. absurd (omega arith)) (λ a. absurd (omega arith)) long, λ pass. ⊎_elim (λ a. absurd (omega arith)) (λ a. absurd (omega arith)) pass)
