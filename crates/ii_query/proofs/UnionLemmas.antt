-- Documents of two lists, each once.
use Rattle.std.proofs.Common.{◌≡◌, ℕ, suc, ◌+◌, ◌<◌, ◌≤◌, true, false, List, [], ◌∷◌, drop, inl, inr, refl, sym, ap, ◌∙◌, arith}
use Rattle.std.proofs.lemmas.Bool.{le-leb, lt-leb}
use Rattle.std.proofs.lemmas.Bool.Decides.{leb_tells}
use Rattle.std.specs.Prelude.{filter, map, nat_le, if◌then◌else◌}
use Rattle.ii_base.specs.declared.doc_id.TheConstants.{TERMINATED}
use Rattle.ii_base.specs.Entries.{Entry, docs_of, document}
use Rattle.ii_docset.specs.Cursor.{doc_at, IsAscending, IsSound, from_doc}
use Rattle.ii_docset.proofs.CursorLemmas.{doc_below, from_doc_here, from_doc_step, nothing_left, ascending_sound}
use Rattle.ii_query.specs.Combined.{either, put_all, put_in}

-- documents from a target on
from_docs : (target : ℕ) (es : List Entry) → docs_of (from_doc target es) ≡ filter (nat_le target) (docs_of es)
from_docs target [] = refl
from_docs target (e ∷ es) = elim (leb_tells target e.doc) [
  | inl h ↦ rw (h.0, from_docs target es) refl
  | inr h ↦ rw (h.0, from_docs target es) refl
]

from_documents : (target : ℕ) (docs : List ℕ) → from_doc target (map document docs) ≡ map document (filter (nat_le target) docs)
from_documents target [] = refl
from_documents target (d ∷ ds) = elim (leb_tells target d) [
  | inl h ↦ rw (h.0, from_documents target ds) refl
  | inr h ↦ rw (h.0, from_documents target ds) refl
]

-- a document is put in among those from a target on, where it is one of them
put_from : (target doc : ℕ) (ds : List ℕ) → filter (nat_le target) (put_in doc ds) ≡ (if nat_le target doc then put_in doc (filter (nat_le target) ds) else filter (nat_le target) ds)
put_from target doc [] = elim (leb_tells target doc) [
  | inl t ↦ rw (t.0) refl
  | inr t ↦ rw (t.0) refl
]
put_from target doc (d ∷ ds) = elim (leb_tells doc d) [
  | inl a ↦ elim (leb_tells d doc) [
    | inl b ↦ put_same target doc d ds a b
    | inr b ↦ put_first target doc d ds a b
  ]
  | inr a ↦ put_later target doc d ds a (put_from target doc ds)
]
  where
    put_same : (target doc d : ℕ) (ds : List ℕ) → (nat_le doc d ≡ true) × (doc ≤ d) → (nat_le d doc ≡ true) × (d ≤ doc) → filter (nat_le target) (put_in doc (d ∷ ds)) ≡ (if nat_le target doc then put_in doc (filter (nat_le target) (d ∷ ds)) else filter (nat_le target) (d ∷ ds))
    put_same target doc d ds a b = elim (leb_tells target d) [
      | inl t ↦ let here = t.1 in let same = b.1 in rw (a.0, b.0, t.0, le-leb target doc (omega (arith, here, same)), a.0, b.0) refl
      | inr t ↦ let here = t.1 in let same = a.1 in rw (a.0, b.0, t.0, lt-leb target doc (omega (arith, here, same))) refl
    ]

    put_first : (target doc d : ℕ) (ds : List ℕ) → (nat_le doc d ≡ true) × (doc ≤ d) → (nat_le d doc ≡ false) × (doc < d) → filter (nat_le target) (put_in doc (d ∷ ds)) ≡ (if nat_le target doc then put_in doc (filter (nat_le target) (d ∷ ds)) else filter (nat_le target) (d ∷ ds))
    put_first target doc d ds a b = elim (leb_tells target doc) [
      | inl t ↦ let here = t.1 in let up = a.1 in rw (a.0, b.0, t.0, le-leb target d (omega (arith, here, up)), a.0, b.0) refl
      | inr t ↦ rw (a.0, b.0, t.0) refl
    ]

    put_later : (target doc d : ℕ) (ds : List ℕ) → (nat_le doc d ≡ false) × (d < doc) → filter (nat_le target) (put_in doc ds) ≡ (if nat_le target doc then put_in doc (filter (nat_le target) ds) else filter (nat_le target) ds)
        → filter (nat_le target) (put_in doc (d ∷ ds)) ≡ (if nat_le target doc then put_in doc (filter (nat_le target) (d ∷ ds)) else filter (nat_le target) (d ∷ ds))
    put_later target doc d ds a later = elim (leb_tells target d) [
      | inl t ↦ let here = t.1 in let up = a.1 in rw (a.0, t.0, later, le-leb target doc (omega (arith, here, up)), a.0) refl
      | inr t ↦ rw (a.0, t.0) later
    ]

put_all_from : (target : ℕ) (ds docs : List ℕ) → filter (nat_le target) (put_all ds docs) ≡ put_all (filter (nat_le target) ds) (filter (nat_le target) docs)
put_all_from target [] docs = refl
put_all_from target (d ∷ ds) docs = put_from target d (put_all ds docs) ∙ elim (leb_tells target d) [
  | inl t ↦ rw (t.0, put_all_from target ds docs) refl
  | inr t ↦ rw (t.0) (put_all_from target ds docs)
]

-- from a document on
pub either_from : (target : ℕ) (es fs : List Entry) → either (from_doc target es) (from_doc target fs) ≡ from_doc target (either es fs)
either_from target es fs =
    rw (from_docs target es, from_docs target fs, from_documents target (put_all (docs_of es) (docs_of fs)))
    (ap (λ (docs : List ℕ). map document docs) (sym (put_all_from target (docs_of es) (docs_of fs))))

-- the first document of a list without its counts
docs_at : (fs : List Entry) → doc_at (map document (docs_of fs)) ≡ doc_at fs
docs_at [] = refl
docs_at (f ∷ fs) = refl

docs_ascend : (fs : List Entry) → IsAscending fs → IsAscending (map document (docs_of fs))
docs_ascend [] h = tt
docs_ascend (f ∷ fs) h = (rw (docs_at fs) h.0, docs_ascend fs h.1)

-- where a document is put in
put_least : (least doc : ℕ) (ds : List ℕ) → least ≤ doc → least ≤ doc_at (map document ds) → least ≤ doc_at (map document (put_in doc ds))
put_least least doc [] low all = low
put_least least doc (d ∷ ds) low all = elim (leb_tells doc d) [
  | inl a ↦ elim (leb_tells d doc) [
    | inl b ↦ rw (a.0, b.0) all
    | inr b ↦ rw (a.0, b.0) low
  ]
  | inr a ↦ rw (a.0) all
]

put_at_most : (doc : ℕ) (ds : List ℕ) → doc ≤ TERMINATED → (doc_at (map document (put_in doc ds)) ≤ doc) × (doc_at (map document (put_in doc ds)) ≤ doc_at (map document ds))
put_at_most doc [] low = (omega arith, low)
put_at_most doc (d ∷ ds) low = elim (leb_tells doc d) [
  | inl a ↦ elim (leb_tells d doc) [
    | inl b ↦ rw (a.0, b.0) (b.1, omega arith)
    | inr b ↦ rw (a.0, b.0) (omega arith, a.1)
  ]
  | inr a ↦ let below = a.1 in rw (a.0) (omega (arith, below), omega arith)
]

put_ascends : (doc : ℕ) (ds : List ℕ) → doc < TERMINATED → IsAscending (map document ds) → IsAscending (map document (put_in doc ds))
put_ascends doc [] low h = (low, tt)
put_ascends doc (d ∷ ds) low h = elim (leb_tells doc d) [
  | inl a ↦ elim (leb_tells d doc) [
    | inl b ↦ rw (a.0, b.0) h
    | inr b ↦ rw (a.0, b.0) (b.1, h)
  ]
  | inr a ↦ rw (a.0) (put_least (suc d) doc ds a.1 h.0, put_ascends doc ds low h.1)
]

-- below the end
first_low : (e : Entry) (es : List Entry) → IsAscending (e ∷ es) → e.doc < TERMINATED
first_low e es h = let next = h.0 in let below = doc_below es h.1 in omega (arith, next, below)

either_ascends : (es fs : List Entry) → IsAscending es → IsAscending fs → IsAscending (either es fs)
either_ascends [] fs first other = docs_ascend fs other
either_ascends (e ∷ es) fs first other = put_ascends e.doc (put_all (docs_of es) (docs_of fs)) (first_low e es first) (either_ascends es fs first.1 other)

pub either_sound : (es fs : List Entry) → IsSound es → IsSound fs → IsSound (either es fs)
either_sound es fs first other = ascending_sound (put_all (docs_of es) (docs_of fs)) (either_ascends es fs first.ascending other.ascending)

-- the first document is the lesser of both
either_least : (least : ℕ) (es fs : List Entry) → IsAscending es → least ≤ doc_at es → least ≤ doc_at fs → least ≤ doc_at (either es fs)
either_least least [] fs h low up = rw (docs_at fs) up
either_least least (e ∷ es) fs h low up = let next = h.0 in put_least least e.doc (put_all (docs_of es) (docs_of fs)) low (either_least least es fs h.1 (omega (arith, low, next)) up)

pub either_at_most : (es fs : List Entry) → IsAscending es → IsAscending fs → (doc_at (either es fs) ≤ doc_at es) × (doc_at (either es fs) ≤ doc_at fs)
either_at_most [] fs first other = (rw (docs_at fs) (doc_below fs other), rw (docs_at fs) (omega arith))
either_at_most (e ∷ es) fs first other =
    let low = first_low e es first in
    let most = put_at_most e.doc (put_all (docs_of es) (docs_of fs)) (omega (arith, low)) in
    let lesser = most.1 in
    let later = (either_at_most es fs first.1 other).1 in
    (most.0, omega (arith, lesser, later))

pub first_is_least : (es fs : List Entry) (one two : ℕ) → IsSound es → IsSound fs → one ≡ doc_at es → two ≡ doc_at fs → one ≤ two → one ≡ doc_at (either es fs)
first_is_least es fs one two first other here there low =
    let up = either_least one es fs first.ascending (omega (arith, here)) (omega (arith, there, low)) in
    let most = (either_at_most es fs first.ascending other.ascending).0 in
    omega (arith, here, up, most)

pub other_is_least : (es fs : List Entry) (one two : ℕ) → IsSound es → IsSound fs → one ≡ doc_at es → two ≡ doc_at fs → two < one → two ≡ doc_at (either es fs)
other_is_least es fs one two first other here there low =
    let up = either_least two es fs first.ascending (omega (arith, here, low)) (omega (arith, there)) in
    let most = (either_at_most es fs first.ascending other.ascending).1 in
    omega (arith, there, up, most)

-- what is left without the first document
pub next_from : (doc : ℕ) (es : List Entry) → IsAscending es → doc ≡ doc_at es → doc < TERMINATED → drop 1 es ≡ from_doc (doc + 1) es
next_from doc [] h here low = refl
next_from doc (e ∷ es) h here low =
    let next = h.0 in
    let below = doc_below es h.1 in
    let step : from_doc (doc + 1) es ≡ from_doc (doc + 1) (e ∷ es) = from_doc_step (doc + 1) (e ∷ es) (omega (arith, here)) (omega (arith, low)) in
    sym (from_doc_here (doc + 1) es h.1 (omega (arith, here, next))) ∙ step

pub either_next : (doc : ℕ) (es fs later_es later_fs : List Entry) → IsSound (either es fs) → doc ≡ doc_at (either es fs) → doc < TERMINATED → later_es ≡ from_doc (doc + 1) es → later_fs ≡ from_doc (doc + 1) fs
    → either later_es later_fs ≡ drop 1 (either es fs)
either_next doc es fs later_es later_fs sound here low first other = rw (first, other) (either_from (doc + 1) es fs ∙ sym (next_from doc (either es fs) sound.ascending here low))

-- at the end nothing is dropped
pub nothing_next : (es : List Entry) (doc : ℕ) → IsSound es → doc ≡ doc_at es → TERMINATED ≤ doc → es ≡ drop 1 es
nothing_next es doc sound here end = let none = nothing_left es sound.ascending (rw (← here) end) in rw (← none) refl
