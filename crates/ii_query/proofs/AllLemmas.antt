-- All documents from one on.
use Rattle.std.proofs.Common.{◌≡◌, ◌∙◌, ℕ, zero, suc, ◌+◌, ◌-◌, ◌<◌, ◌≤◌, ◌&&◌, List, [], drop, inl, inr, nat_le, nat_lt, refl, sym, ap, arith}
use Rattle.std.specs.List.{range_with_len}
use Rattle.std.proofs.lemmas.Bool.{cases_lt, le-leb, le-ltb, lt-leb, lt-ltb}
use Rattle.std.proofs.lemmas.Bool.Decides.{eqb_tells, leb_tells}
use Rattle.ii_base.specs.declared.doc_id.TheConstants.{TERMINATED}
use Rattle.ii_base.specs.Entries.{Entry}
use Rattle.ii_docset.specs.Cursor.{doc_at, from_doc, IsAscending, IsSound}
use Rattle.ii_docset.specs.Intersection.{has_doc}
use Rattle.ii_docset.proofs.CursorLemmas.{from_doc_here, ascending_sound}
use Rattle.ii_query.specs.Combined.{all_from}

-- the first document
pub all_first : (doc end : ℕ) → doc < end → doc_at (all_from doc (end - doc)) ≡ doc
all_first doc end low = let more : end - doc ≡ suc (end - suc doc) = omega (arith, low) in ap (λ (n : ℕ). doc_at (all_from doc n)) more

pub all_none : (doc end : ℕ) → end ≤ doc → all_from doc (end - doc) ≡ []
all_none doc end low = let none : end - doc ≡ 0 = omega (arith, low) in ap (all_from doc) none

ascends : (doc n : ℕ) → (n ≡ 0 → ⊥) → doc + n ≤ TERMINATED → IsAscending (all_from doc n)
ascends doc zero some few = absurd (some refl)
ascends doc (suc zero) some few = (omega (arith, few), tt)
ascends doc (suc (suc n)) some few = (omega arith, ascends (doc + 1) (suc n) (λ none. omega (arith, none)) (omega (arith, few)))

pub all_ascend : (doc end : ℕ) → end ≤ TERMINATED → IsAscending (all_from doc (end - doc))
all_ascend doc end up = elim (cases_lt doc end) [
  | inl low ↦ ascends doc (end - doc) (λ none. omega (arith, low, none)) (omega (arith, low, up))
  | inr high ↦ rw (all_none doc end high) tt
]

pub all_sound : (doc end : ℕ) → end ≤ TERMINATED → IsSound (all_from doc (end - doc))
all_sound doc end up = ascending_sound (range_with_len doc (end - doc)) (all_ascend doc end up)

-- without the first document
pub all_end : (doc end : ℕ) → end ≤ doc → all_from doc (end - doc) ≡ drop 1 (all_from doc (end - doc))
all_end doc end low = all_none doc end low ∙ sym (ap (λ (es : List Entry). drop 1 es) (all_none doc end low))

pub all_next : (doc end : ℕ) → doc < end → all_from (doc + 1) (end - (doc + 1)) ≡ drop 1 (all_from doc (end - doc))
all_next doc end low = let more : end - doc ≡ suc (end - (doc + 1)) = omega (arith, low) in sym (ap (λ (n : ℕ). drop 1 (all_from doc n)) more)

goes_to : (doc n target : ℕ) → target ≤ doc + n → doc ≤ target → from_doc target (all_from doc n) ≡ all_from target (doc + n - target)
goes_to doc zero target up low = let none : doc + 0 - target ≡ 0 = omega (arith, low) in sym (ap (all_from target) none)
goes_to doc (suc n) target up low = elim (leb_tells target doc) [
  | inl h ↦
      let here = h.1 in
      let same : target ≡ doc = omega (arith, here, low) in
      let all : doc + suc n - target ≡ suc n = omega (arith, same) in
      rw (h.0, stays (doc + 1) n target (omega (arith, here))) (sym (ap (λ (d : ℕ). all_from d (doc + suc n - target)) same ∙ ap (all_from doc) all))
  | inr h ↦
      let above = h.1 in
      let left : doc + suc n - target ≡ doc + 1 + n - target = omega arith in
      rw (h.0, left) (goes_to (doc + 1) n target (omega (arith, up)) (omega (arith, above)))
]
  where
    stays : (doc n target : ℕ) → target ≤ doc → from_doc target (all_from doc n) ≡ all_from doc n
    stays doc zero target low = refl
    stays doc (suc n) target low = rw (le-leb target doc low, stays (doc + 1) n target (omega (arith, low))) refl

-- from a document on
pub all_goes_to : (doc end target : ℕ) → doc < target → all_from target (end - target) ≡ from_doc target (all_from doc (end - doc))
all_goes_to doc end target low = elim (cases_lt target end) [
  | inl inside ↦
      let all : end - target ≡ doc + (end - doc) - target = omega (arith, low, inside) in
      ap (all_from target) all ∙ sym (goes_to doc (end - doc) target (omega (arith, low, inside)) (omega (arith, low)))
  | inr past ↦ all_none target end past ∙ sym (none_from doc (end - doc) target (omega (arith, low, past)))
]
  where
    none_from : (doc n target : ℕ) → doc + n ≤ target → from_doc target (all_from doc n) ≡ []
    none_from doc zero target few = refl
    none_from doc (suc n) target few = rw (lt-leb target doc (omega (arith, few))) (none_from (doc + 1) n target (omega (arith, few)))

pub all_stays : (doc end target : ℕ) → end ≤ TERMINATED → target ≤ doc → all_from doc (end - doc) ≡ from_doc target (all_from doc (end - doc))
all_stays doc end target up low = elim (cases_lt doc end) [
  | inl inside ↦ let first = all_first doc end inside in sym (from_doc_here target (all_from doc (end - doc)) (all_ascend doc end up) (omega (arith, first, low)))
  | inr past ↦ rw (all_none doc end past) refl
]

-- `all_from` has a document if and only if it is in the range
pub all_has : (first n doc : ℕ) → has_doc (all_from first n) doc ≡ (nat_le first doc && nat_lt doc (first + n))
all_has first zero doc = elim (leb_tells first doc) [
  | inl h ↦ let up = h.1 in rw (h.0, le-ltb doc (first + 0) (omega (arith, up))) refl
  | inr h ↦ rw (h.0) refl
]
all_has first (suc n) doc =
    let rest = all_has (first + 1) n doc in
    elim (eqb_tells first doc) [
      | inl h ↦ let same = h.1 in rw (h.0, le-leb first doc (omega (arith, same)), lt-ltb doc (first + suc n) (omega (arith, same))) refl
      | inr h ↦ elim (leb_tells first doc) [
        | inl k ↦
            let up = k.1 in
            let other = h.1 in
            let above : first + 1 ≤ doc = omega (arith, up, other) in
            let same : first + 1 + n ≡ first + suc n = omega arith in
            rw (h.0, k.0, rest, le-leb (first + 1) doc above, same) refl
        | inr k ↦ let low = k.1 in rw (h.0, k.0, rest, lt-leb (first + 1) doc (omega (arith, low))) refl
      ]
    ]
