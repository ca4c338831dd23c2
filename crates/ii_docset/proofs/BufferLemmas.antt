-- A buffer is filled with the documents of entries, in order.
use Rattle.std.proofs.Common.{◌≡◌, ◌≢◌, ℕ, zero, suc, ◌+◌, ◌<◌, ◌≤◌, List, [], ◌∷◌, ◌++◌, length, take, drop, slice_set, refl, ap, arith, add-one}
use Rattle.std.proofs.lemmas.List.{drop-drop, length-drop, drop_all, take_all}
use Rattle.ii_base.specs.declared.doc_id.TheConstants.{TERMINATED}
use Rattle.ii_base.specs.Entries.{Entry, docs_of}
use Rattle.ii_docset.specs.Cursor.{doc_at, IsSound}
use Rattle.ii_docset.proofs.CursorLemmas.{nothing_left}

set_next : (es : List Entry) (before : List ℕ) (i : ℕ) → i < length es → i < length before → slice_set (docs_of (take i es) ++ drop i before) i (doc_at (drop i es)) ≡ docs_of (take (suc i) es) ++ drop (suc i) before
set_next [] before i within room = absurd (omega arith)
set_next (e ∷ es) [] i within room = absurd (omega arith)
set_next (e ∷ es) (b ∷ before) zero within room = refl
set_next (e ∷ es) (b ∷ before) (suc i) within room = ap (λ (later : List ℕ). e.doc ∷ later) (set_next es before i (omega arith) (omega arith))

-- the current document is written at its place
pub filled_more : (all now : List Entry) (before buffer : List ℕ) (i d : ℕ) → now ≡ drop i all → d ≡ doc_at now → i < length all → i < length before → buffer ≡ docs_of (take i all) ++ drop i before → slice_set buffer i d ≡ docs_of (take (i + 1) all) ++ drop (i + 1) before
filled_more all now before buffer i d left here within room filled = rw (filled, here, left, add-one i) (set_next all before i within room)

pub left_more : (all now after : List Entry) (i : ℕ) → now ≡ drop i all → after ≡ drop 1 now → after ≡ drop (i + 1) all
left_more all now after i left next = rw (next, left) (drop-drop 1 i all)

not_ended : (es : List Entry) → doc_at es ≢ TERMINATED → 0 < length es
not_ended [] h = absurd (h refl)
not_ended (e ∷ es) h = omega arith

-- where a document is left, the list is longer
pub more_left : (all now after : List Entry) (i d : ℕ) → now ≡ drop i all → after ≡ drop 1 now → d ≡ doc_at after → d ≢ TERMINATED → i + 1 < length all
more_left all now after i d left next here not_end =
    let some : 0 < length after = not_ended after (rw (← here) not_end) in
    let many : 0 < length (drop 1 (drop i all)) = rw (← left, ← next) some in
    omega (arith, many, length-drop 1 (drop i all), length-drop i all)

-- where none is left, the list ends there
pub none_left : (all now after : List Entry) (i d : ℕ) → now ≡ drop i all → after ≡ drop 1 now → d ≡ doc_at after → d ≡ TERMINATED → IsSound after → i < length all → length all ≡ i + 1
none_left all now after i d left next here end sound within =
    let bound : TERMINATED ≤ doc_at after = rw (← here, end) (omega arith) in
    let none = nothing_left after sound.ascending bound in
    let zero_left : length (drop 1 (drop i all)) ≡ 0 = rw (← left, ← next, ← none) refl in
    omega (arith, zero_left, length-drop 1 (drop i all), length-drop i all)

-- a list that ends within the buffer fills it up to there
pub filled_all : (all : List Entry) (before buffer : List ℕ) (n : ℕ) → length all ≡ n → n ≤ 64 → buffer ≡ docs_of (take n all) ++ drop n before → buffer ≡ docs_of (take 64 all) ++ drop (length all) before
filled_all all before buffer n many low filled = rw (many, take_all 64 all (omega arith), ← take_all n all (omega arith)) filled

pub nothing_after : (all now after : List Entry) (i : ℕ) → now ≡ drop i all → after ≡ drop 1 now → length all ≡ i + 1 → i < 64 → after ≡ drop 64 all
nothing_after all now after i left next many low = rw (next, left, drop-drop 1 i all, drop_all (i + 1) all (omega arith), drop_all 64 all (omega arith)) refl

-- a longer list fills the buffer
pub filled_64 : (all : List Entry) (before buffer : List ℕ) (i : ℕ) → i ≡ 64 → i < length all → length before ≡ 64 → buffer ≡ docs_of (take i all) ++ drop i before → buffer ≡ docs_of (take 64 all) ++ drop (length all) before
filled_64 all before buffer i full within size filled = rw (drop_all (length all) before (omega arith), ← drop_all i before (omega arith), ← full) filled
