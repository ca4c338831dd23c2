-- Laws of cursors.
use Rattle.std.proofs.Common.{◌≡◌, ℕ, zero, suc, ◌+◌, ◌<◌, ◌≤◌, true, List, [], ◌∷◌, ◌++◌, ◌^◌, length, take, drop, map, nat_le, nat_lt, get_or, lit<, ◌-◌, refl, sym, ap, arith, add-zero}
use Rattle.std.proofs.lemmas.Bool.{lt-ltb, ltb-true, le-leb, lt-leb, leb-true}
use Rattle.std.proofs.lemmas.List.{drop-drop, take_more}
use Rattle.std.proofs.lemmas.List.Elements.{All-drop, All-map}
use Rattle.std.proofs.lemmas.List.Sorted.{IsNonDecreasingBy-short}
use Rattle.std.specs.List.{All, range_with_len}
use Rattle.std.specs.List.Sorted.{IsNonDecreasing}
use Rattle.ii_base.specs.declared.doc_id.TheConstants.{TERMINATED}
use Rattle.ii_base.specs.Entries.{Entry, document, ascend_from, are_documents}
use Rattle.ii_base.proofs.AscentLemmas.{and_parts}
use Rattle.ii_docset.specs.Cursor.{doc_at, IsAscending, FitsU32, IsInOrder, IsSound, from_doc, positions_at}

pub IsAscending_drop_1 : (es : List Entry) → IsAscending es → IsAscending (drop 1 es)
IsAscending_drop_1 [] h = tt
IsAscending_drop_1 (e ∷ es) h = h.1

pub IsAscending_drop : (n : ℕ) (es : List Entry) → IsAscending es → IsAscending (drop n es)
IsAscending_drop zero es h = h
IsAscending_drop (suc n) [] h = tt
IsAscending_drop (suc n) (e ∷ es) h = IsAscending_drop n es h.1

-- a document below the target is dropped by both
pub from_doc_step : (target : ℕ) (es : List Entry) → doc_at es < target → target ≤ TERMINATED → from_doc target (drop 1 es) ≡ from_doc target es
from_doc_step target [] h up = refl
from_doc_step target (e ∷ es) h up = rw (lt-leb target e.doc h) refl

-- from the current document on nothing is dropped
pub from_doc_here : (target : ℕ) (es : List Entry) → IsAscending es → target ≤ doc_at es → from_doc target es ≡ es
from_doc_here target [] h at_least = refl
from_doc_here target (e ∷ es) h at_least =
    let first = h.0 in
    rw (le-leb target e.doc at_least) (ap (λ (later : List Entry). e ∷ later) (from_doc_here target es h.1 (omega arith)))

pub length_below : (es : List Entry) → IsAscending es → length es + doc_at es ≤ TERMINATED
length_below [] h = omega arith
length_below (e ∷ es) h = let ih = length_below es h.1 in let first = h.0 in omega arith

pub nothing_left : (es : List Entry) → IsAscending es → TERMINATED ≤ doc_at es → [] ≡ es
nothing_left [] h end = refl
nothing_left (e ∷ es) h end = absurd (let ih = length_below (e ∷ es) h in omega arith)

pub length_step : (es : List Entry) → doc_at es < TERMINATED → suc (length (drop 1 es)) ≡ length es
length_step [] h = absurd (omega arith)
length_step (e ∷ es) h = refl

pub doc_below : (es : List Entry) → IsAscending es → doc_at es ≤ TERMINATED
doc_below es h = let below = length_below es h in omega arith

-- the current document of documents from a place on
pub doc_at_inside : (docs : List ℕ) (i : ℕ) → i < length docs → get_or docs i 0 ≡ doc_at (drop i (map document docs))
doc_at_inside [] i h = absurd (omega arith)
doc_at_inside (d ∷ ds) zero h = refl
doc_at_inside (d ∷ ds) (suc i) h = doc_at_inside ds i (omega arith)

pub advanced : (es : List Entry) (i : ℕ) → drop (i + 1) es ≡ drop 1 (drop i es)
advanced es i = sym (drop-drop 1 i es)

-- at its end a list has nothing to drop
pub ended : (docs : List ℕ) (i : ℕ) → length docs ≤ i → drop i (map document docs) ≡ []
ended [] zero h = refl
ended [] (suc i) h = refl
ended (d ∷ ds) zero h = absurd (omega arith)
ended (d ∷ ds) (suc i) h = ended ds i (omega arith)

-- documents in order are an ascending list, and no others are
ascending_from : (least : ℕ) (docs : List ℕ) → ascend_from least docs ≡ true → IsAscending (map document docs) × (least ≤ TERMINATED → least ≤ doc_at (map document docs))
ascending_from least [] h = (tt, λ up. up)
ascending_from least (d ∷ ds) h =
    let parts = and_parts (nat_le least d) (nat_lt d TERMINATED) (ascend_from (d + 1) ds) h in
    let low = leb-true least d parts.0 in
    let high = ltb-true d TERMINATED parts.1 in
    let later = ascending_from (d + 1) ds parts.2 in
    let next = later.1 (omega arith) in
    ((omega arith, later.0), λ up. low)

pub ascending : (docs : List ℕ) → are_documents docs ≡ true → IsAscending (map document docs)
ascending docs h = (ascending_from 0 docs h).0

-- documents alone are sound, and so is what is left of a sound rest
documents_fit : (docs : List ℕ) → All FitsU32 (map document docs)
documents_fit docs = All-map FitsU32 document docs (λ k d within. (lit< tt, λ j p none. absurd (omega arith)))

documents_in_order : (docs : List ℕ) → All IsInOrder (map document docs)
documents_in_order docs = All-map IsInOrder document docs (λ k d within. IsNonDecreasingBy-short (λ p. p) [] (omega arith))

pub ascending_sound : (docs : List ℕ) → IsAscending (map document docs) → IsSound (map document docs)
ascending_sound docs h = record { ascending = h; fits = documents_fit docs; in_order = documents_in_order docs }

pub documents_sound : (docs : List ℕ) → are_documents docs ≡ true → IsSound (map document docs)
documents_sound docs h = ascending_sound docs (ascending docs h)

pub IsSound_drop : (n : ℕ) (es : List Entry) → IsSound es → IsSound (drop n es)
IsSound_drop n es h = record { ascending = IsAscending_drop n es h.ascending; fits = All-drop FitsU32 n es h.fits; in_order = All-drop IsInOrder n es h.in_order }

-- all numbers from one to another
range_ascends : (least first n : ℕ) → least ≤ first → first + n ≤ TERMINATED → ascend_from least (range_with_len first n) ≡ true
range_ascends least first zero low high = refl
range_ascends least first (suc n) low high = rw (le-leb least first low, lt-ltb first TERMINATED (omega arith)) (range_ascends (first + 1) (first + 1) n (omega arith) (omega arith))

pub range_sound : (first end : ℕ) → first ≤ end → end ≤ TERMINATED → IsSound (map document (range_with_len first (end - first)))
range_sound first end within low = documents_sound (range_with_len first (end - first)) (range_ascends 0 first (end - first) (omega arith) (omega arith))

pub ruleset cursor_steps = (IsAscending_drop_1, from_doc_step, from_doc_here, length_below, nothing_left, length_step, doc_below)

-- documents from the front are documents
ascend_take : (n least : ℕ) (docs : List ℕ) → ascend_from least docs ≡ true → ascend_from least (take n docs) ≡ true
ascend_take zero least docs h = refl
ascend_take (suc n) least [] h = refl
ascend_take (suc n) least (d ∷ ds) h =
    let parts = and_parts (nat_le least d) (nat_lt d TERMINATED) (ascend_from (d + 1) ds) h in
    rw (parts.0, parts.1) (ascend_take n (d + 1) ds parts.2)

pub documents_take : (i : ℕ) (docs : List ℕ) → i < length docs → are_documents docs ≡ true → are_documents (take i docs ++ get_or docs i 0 ∷ []) ≡ true
documents_take i docs within h = rw (← take_more docs i 0 within) (ascend_take (i + 1) 0 docs h)

-- the positions of a sound cursor's document have 32 bits, also with nothing added
pub positions_fit : (es : List Entry) → IsSound es → All (λ (p : ℕ). p + 0 < 2 ^ 32) (positions_at es)
positions_fit [] h k d within = absurd (omega arith)
positions_fit (e ∷ es) h k d within = rw (add-zero (get_or e.positions k d)) ((h.fits 0 e (omega arith)).1 k d within)

-- the positions of a sound cursor's document don't decrease
pub positions_in_order : (es : List Entry) → IsSound es → IsNonDecreasing (positions_at es)
positions_in_order [] h = IsNonDecreasingBy-short (λ p. p) [] (omega arith)
positions_in_order (e ∷ es) h = h.in_order 0 e (omega arith)

pub map-add_zero : (ps : List ℕ) → map (λ (p : ℕ). p + 0) ps ≡ ps
map-add_zero [] = refl
map-add_zero (p ∷ ps) = rw (add-zero p, map-add_zero ps) refl
