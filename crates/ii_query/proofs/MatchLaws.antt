-- Which documents combined lists have.
use Rattle.std.proofs.Common.{◌≡◌, ◌≢◌, ℕ, ◌<◌, Bool, true, false, ◌&&◌, ◌||◌, List, [], ◌∷◌, inl, inr, refl, sym, ap, ◌∙◌, arith}
use Rattle.std.proofs.Math.Bool.{and-false, or_assoc, or_self_left}
use Rattle.std.proofs.lemmas.Bool.{eq-eqb, ne_eqb}
use Rattle.std.proofs.lemmas.Bool.Decides.{eqb_tells, leb_tells}
use Rattle.std.specs.Prelude.{map, nat_eq, not}
use Rattle.ii_base.specs.declared.doc_id.TheConstants.{TERMINATED}
use Rattle.ii_base.specs.Entries.{Entry, docs_of, document}
use Rattle.ii_docset.specs.Cursor.{doc_at, IsAscending, from_doc}
use Rattle.ii_docset.specs.Intersection.{has_doc}
use Rattle.ii_query.specs.Combined.{all_have, common, either, intersection_of, picked, put_all, put_in, union_of, without}
use Rattle.ii_docset.proofs.IntersectionLemmas.{has_doc_below}

-- a picked document is in the list, and what picks holds of it
pub picked_has : (holds : ℕ → Bool) (es : List Entry) (doc : ℕ) → has_doc (picked holds es) doc ≡ (has_doc es doc && holds doc)
picked_has holds [] doc = refl
picked_has holds (e ∷ es) doc = elim (eqb_tells e.doc doc) [
  | inl h ↦ here h (picked_has holds es doc) (holds e.doc) refl (ap holds h.1)
  | inr h ↦ there h (picked_has holds es doc) (holds e.doc) refl
]
  where
    here : (nat_eq e.doc doc ≡ true) × (e.doc ≡ doc) → has_doc (picked holds es) doc ≡ (has_doc es doc && holds doc) → (b : Bool) → holds e.doc ≡ b → holds e.doc ≡ holds doc → has_doc (picked holds (e ∷ es)) doc ≡ (has_doc (e ∷ es) doc && holds doc)
    here h later true is same = rw (is, h.0, ← same, is) refl
    here h later false is same = rw (is, h.0, later, ← same, is) (and-false (has_doc es doc))

    there : (nat_eq e.doc doc ≡ false) × (e.doc ≢ doc) → has_doc (picked holds es) doc ≡ (has_doc es doc && holds doc) → (b : Bool) → holds e.doc ≡ b → has_doc (picked holds (e ∷ es)) doc ≡ (has_doc (e ∷ es) doc && holds doc)
    there h later true is = rw (is, h.0) later
    there h later false is = rw (is, h.0) later

-- both lists have it
pub common_has : (es fs : List Entry) (doc : ℕ) → has_doc (common es fs) doc ≡ (has_doc es doc && has_doc fs doc)
common_has es fs doc = picked_has (has_doc fs) es doc

-- one list has it, and the other one hasn't
pub without_has : (es fs : List Entry) (doc : ℕ) → has_doc (without es fs) doc ≡ (has_doc es doc && not (has_doc fs doc))
without_has es fs doc = picked_has (λ (d : ℕ). not (has_doc fs d)) es doc

pub or_swap : (a b c : Bool) → (a || (b || c)) ≡ (b || (a || c))
or_swap true true c = refl
or_swap true false c = refl
or_swap false b c = refl

put_has : (d : ℕ) (ds : List ℕ) (doc : ℕ) → has_doc (map document (put_in d ds)) doc ≡ (nat_eq d doc || has_doc (map document ds) doc)
put_has d [] doc = refl
put_has d (x ∷ xs) doc = elim (leb_tells d x) [
  | inl a ↦ elim (leb_tells x d) [
    | inl b ↦ let up = a.1 in let low = b.1 in let same : d ≡ x = omega (arith, up, low) in rw (a.0, b.0, same) (sym (or_self_left (nat_eq x doc) (has_doc (map document xs) doc)))
    | inr b ↦ rw (a.0, b.0) refl
  ]
  | inr a ↦ rw (a.0, put_has d xs doc) (or_swap (nat_eq x doc) (nat_eq d doc) (has_doc (map document xs) doc))
]

docs_has : (fs : List Entry) (doc : ℕ) → has_doc (map document (docs_of fs)) doc ≡ has_doc fs doc
docs_has [] doc = refl
docs_has (f ∷ fs) doc = rw (docs_has fs doc) refl

-- one of two lists has it
pub either_has : (es fs : List Entry) (doc : ℕ) → has_doc (either es fs) doc ≡ (has_doc es doc || has_doc fs doc)
either_has [] fs doc = docs_has fs doc
either_has (e ∷ es) fs doc =
    put_has e.doc (put_all (docs_of es) (docs_of fs)) doc
    ∙ ap (λ (b : Bool). nat_eq e.doc doc || b) (either_has es fs doc)
    ∙ sym (or_assoc (nat_eq e.doc doc) (has_doc es doc) (has_doc fs doc))

-- all of some lists have it
pub intersection_has : (es : List Entry) (others : List (List Entry)) (doc : ℕ) → has_doc (intersection_of (es ∷ others)) doc ≡ all_have (es ∷ others) doc
intersection_has es others doc = picked_has (all_have others) es doc

-- one of some lists has it
pub union_has : (es : List Entry) (others : List (List Entry)) (doc : ℕ) → has_doc (union_of (es ∷ others)) doc ≡ (has_doc es doc || has_doc (union_of others) doc)
union_has es others doc = either_has es (union_of others) doc

-- a list has the document that it begins with from there on
pub has_found : (es : List Entry) (doc : ℕ) → doc < TERMINATED → doc_at (from_doc doc es) ≡ doc → has_doc es doc ≡ true
has_found [] doc low here = absurd (omega (arith, low, here))
has_found (e ∷ es) doc low here = elim (leb_tells doc e.doc) [
  | inl h ↦ let same : e.doc ≡ doc = rw (h.0) at here in rw (eq-eqb e.doc doc same) refl
  | inr h ↦ let later : doc_at (from_doc doc es) ≡ doc = rw (h.0) at here in let below = h.1 in rw (ne_eqb e.doc doc (λ same. omega (arith, below, same))) (has_found es doc low later)
]

-- and doesn't have it where it begins with another one
pub has_missed : (es : List Entry) (doc : ℕ) → IsAscending es → doc_at (from_doc doc es) ≢ doc → has_doc es doc ≡ false
has_missed [] doc ascend other = refl
has_missed (e ∷ es) doc ascend other = elim (leb_tells doc e.doc) [
  | inl h ↦ let up = h.1 in let ne : e.doc ≢ doc = rw (h.0) at other in has_doc_below doc (e ∷ es) ascend (omega (arith, up, ne))
  | inr h ↦ let later : doc_at (from_doc doc es) ≢ doc = rw (h.0) at other in let below = h.1 in rw (ne_eqb e.doc doc (λ same. omega (arith, below, same))) (has_missed es doc ascend.1 later)
]
