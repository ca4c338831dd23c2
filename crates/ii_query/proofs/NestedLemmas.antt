-- The remaining documents of nested cursors.
use Rattle.std.proofs.Common.{◌≡◌, ℕ, ◌≤◌, List, [], inl, inr, sym, ◌∙◌, arith}
use Rattle.std.specs.Prelude.{min}
use Rattle.std.proofs.lemmas.Bool.Decides.{leb_tells}
use Rattle.ii_base.specs.declared.doc_id.TheConstants.{TERMINATED}
use Rattle.ii_base.specs.Entries.{Entry}
use Rattle.ii_docset.specs.Cursor.{doc_at, IsSound}
use Rattle.ii_docset.proofs.CursorLemmas.{doc_below, nothing_left}
use Rattle.ii_query.specs.Combined.{StandsAt, either}
use Rattle.ii_query.proofs.UnionLemmas.{either_at_most, either_sound, first_is_least, other_is_least}

-- the lesser of two first documents is the first that either has
least_of : (es fs : List Entry) (one two : ℕ) → IsSound es → IsSound fs → one ≡ doc_at es → two ≡ doc_at fs → min one two ≡ doc_at (either es fs)
least_of es fs one two first other here there = elim (leb_tells one two) [
  | inl h ↦ let low = h.1 in let same : min one two ≡ one = omega (arith, low) in same ∙ first_is_least es fs one two first other here there low
  | inr h ↦ let low = h.1 in let same : min one two ≡ two = omega (arith, low) in same ∙ other_is_least es fs one two first other here there low
]

pub either_at : (es fs : List Entry) (one two : ℕ) → IsSound es → IsSound fs → one ≡ doc_at es → two ≡ doc_at fs → StandsAt (min one two) (either es fs)
either_at es fs one two first other here there = record { sound = either_sound es fs first other; here = least_of es fs one two first other here there }

-- the end of both
pub either_ended : (es fs : List Entry) (doc : ℕ) → IsSound es → IsSound fs → doc ≡ doc_at (either es fs) → TERMINATED ≤ doc → (es ≡ []) × (fs ≡ [])
either_ended es fs doc first other here end =
    let most = either_at_most es fs first.ascending other.ascending in
    let one = most.0 in
    let two = most.1 in
    (sym (nothing_left es first.ascending (omega (arith, here, end, one))), sym (nothing_left fs other.ascending (omega (arith, here, end, two))))

-- a current document is at most the end
pub stands_low : (doc : ℕ) (es : List Entry) → StandsAt doc es → doc ≤ TERMINATED
stands_low doc es at = let here = at.here in let below = doc_below es at.sound.ascending in omega (arith, here, below)
