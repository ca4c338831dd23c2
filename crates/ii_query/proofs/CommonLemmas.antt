-- The intersection of two lists is the same whichever leads.
use Rattle.std.proofs.Common.{◌≡◌, ◌≢◌, ℕ, ◌<◌, ◌≤◌, Bool, true, false, List, [], ◌∷◌, inl, inr, refl, sym, ap, ◌∙◌, arith}
use Rattle.std.proofs.lemmas.Bool.{eq-eqb, ne_eqb}
use Rattle.std.proofs.lemmas.Bool.Decides.{eqb_tells}
use Rattle.std.specs.Prelude.{filter, map}
use Rattle.ii_base.specs.Entries.{Entry, docs_of, document}
use Rattle.ii_docset.specs.Cursor.{doc_at, IsAscending}
use Rattle.ii_docset.specs.Intersection.{has_doc}
use Rattle.ii_query.specs.Combined.{picked}
use Rattle.ii_docset.proofs.IntersectionLemmas.{has_doc_below}

-- a list has its first document
pub has_first : (e : Entry) (es : List Entry) → has_doc (e ∷ es) e.doc ≡ true
has_first e es = rw (eq-eqb e.doc e.doc refl) refl

-- the first document of one list is not below that of another one with the same documents
not_below : (e f : Entry) (es fs : List Entry) → IsAscending (f ∷ fs) → ((d : ℕ) → has_doc (e ∷ es) d ≡ has_doc (f ∷ fs) d) → f.doc ≤ e.doc
not_below e f es fs ascend alike = grind (arith, alike e.doc, has_first e es, has_doc_below e.doc (f ∷ fs) ascend)

-- a document after the first ones
behind : (e f : Entry) (es fs : List Entry) → IsAscending (e ∷ es) → IsAscending (f ∷ fs) → e.doc ≡ f.doc → ((d : ℕ) → has_doc (e ∷ es) d ≡ has_doc (f ∷ fs) d) → (d : ℕ) → has_doc es d ≡ has_doc fs d
behind e f es fs up also same alike d = elim (eqb_tells e.doc d) [
  | inl h ↦
      let low : d < doc_at es = let here = h.1 in let first = up.0 in omega (arith, here, first) in
      let below : d < doc_at fs = let here = h.1 in let first = also.0 in omega (arith, here, first, same) in
      has_doc_below d es up.1 low ∙ sym (has_doc_below d fs also.1 below)
  | inr h ↦
      let other : f.doc ≢ d = λ eq. h.1 (same ∙ eq) in
      let told = alike d in
      let later : has_doc es d ≡ has_doc fs d = rw (h.0, ne_eqb f.doc d other) at told in
      later
]

-- ascending lists that have the same documents
pub same_docs : (es fs : List Entry) → IsAscending es → IsAscending fs → ((d : ℕ) → has_doc es d ≡ has_doc fs d) → docs_of es ≡ docs_of fs
same_docs [] [] up also alike = refl
same_docs [] (f ∷ fs) up also alike = absurd (let wrong : false ≡ true = alike f.doc ∙ has_first f fs in cc)
same_docs (e ∷ es) [] up also alike = absurd (let wrong : true ≡ false = sym (has_first e es) ∙ alike e.doc in cc)
same_docs (e ∷ es) (f ∷ fs) up also alike =
    let low = not_below e f es fs also alike in
    let high = not_below f e fs es up (λ d. sym (alike d)) in
    let same : e.doc ≡ f.doc = omega (arith, low, high) in
    ap (λ (docs : List ℕ). e.doc ∷ docs) (same_docs es fs up.1 also.1 (behind e f es fs up also same alike)) ∙ ap (λ (d : ℕ). d ∷ docs_of fs) same

-- documents made entries have the documents
pub docs_again : (docs : List ℕ) → docs_of (map document docs) ≡ docs
docs_again [] = refl
docs_again (d ∷ ds) = ap (λ (more : List ℕ). d ∷ more) (docs_again ds)

pub picked_again : (holds : ℕ → Bool) (es : List Entry) → map document (docs_of (picked holds es)) ≡ picked holds es
picked_again holds es = ap (map document) (docs_again (filter holds (docs_of es)))
