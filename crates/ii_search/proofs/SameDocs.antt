-- Ascending lists that have the same documents are equally long.
use Rattle.std.proofs.Common.{◌≡◌, ◌∙◌, ℕ, suc, true≢false, ◌<◌, List, [], ◌∷◌, inl, inr, length, refl, sym, ap, arith}
use Rattle.std.proofs.lemmas.Bool.{ne_eqb}
use Rattle.std.proofs.lemmas.Bool.Decides.{eqb_tells, leb_tells}
use Rattle.ii_docset.specs.Cursor.{IsAscending}
use Rattle.ii_base.specs.Entries.{Entry}
use Rattle.ii_docset.specs.Intersection.{has_doc}
use Rattle.ii_query.proofs.CommonLemmas.{has_first}
use Rattle.ii_docset.proofs.IntersectionLemmas.{has_doc_below}

-- a list that begins with a greater one hasn't
later_has : (e f : Entry) (es fs : List Entry) → IsAscending (f ∷ fs) → e.doc < f.doc → has_doc (e ∷ es) e.doc ≡ has_doc (f ∷ fs) e.doc → ⊥
later_has e f es fs ascend low same = true≢false (sym (has_first e es) ∙ same ∙ has_doc_below e.doc (f ∷ fs) ascend low)

same_first : (e f : Entry) (es fs : List Entry) → IsAscending (e ∷ es) → IsAscending (f ∷ fs) → ((doc : ℕ) → has_doc (e ∷ es) doc ≡ has_doc (f ∷ fs) doc) → e.doc ≡ f.doc
same_first e f es fs first other same = elim (leb_tells e.doc f.doc) [
  | inl h ↦ elim (leb_tells f.doc e.doc) [
    | inl k ↦ let up = h.1 in let low = k.1 in omega (arith, up, low)
    | inr k ↦ absurd (later_has e f es fs other k.1 (same e.doc))
  ]
  | inr h ↦ absurd (later_has f e fs es first h.1 (sym (same f.doc)))
]

same_later : (e f : Entry) (es fs : List Entry) (doc : ℕ) → IsAscending (e ∷ es) → IsAscending (f ∷ fs) → e.doc ≡ f.doc → has_doc (e ∷ es) doc ≡ has_doc (f ∷ fs) doc → has_doc es doc ≡ has_doc fs doc
same_later e f es fs doc first other at same = elim (eqb_tells e.doc doc) [
  | inl h ↦
      let here = h.1 in
      let one = first.0 in
      let two = other.0 in
      has_doc_below doc es first.1 (omega (arith, here, one)) ∙ sym (has_doc_below doc fs other.1 (omega (arith, here, at, two)))
  | inr h ↦ rw (h.0, ne_eqb f.doc doc (λ is. h.1 (at ∙ is))) at same
]

pub same_length : (es fs : List Entry) → IsAscending es → IsAscending fs → ((doc : ℕ) → has_doc es doc ≡ has_doc fs doc) → length es ≡ length fs
same_length [] [] first other same = refl
same_length [] (f ∷ fs) first other same = absurd (true≢false (sym (has_first f fs) ∙ sym (same f.doc)))
same_length (e ∷ es) [] first other same = absurd (true≢false (sym (has_first e es) ∙ same e.doc))
same_length (e ∷ es) (f ∷ fs) first other same =
    let at = same_first e f es fs first other same in
    ap suc (same_length es fs first.1 other.1 (λ doc. same_later e f es fs doc first other at (same doc)))
