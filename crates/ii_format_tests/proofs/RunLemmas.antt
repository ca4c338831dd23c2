-- Consecutive documents.
use Rattle.std.proofs.Common.{◌≡◌, ℕ, zero, suc, ◌+◌, ◌<◌, true, [], ◌∷◌, ◌++◌, length, refl, sym, ap, ◌∙◌, arith}
use Rattle.std.proofs.lemmas.Bool.{le-leb, lt-ltb}
use Rattle.std.proofs.lemmas.List.FromFn.{length-range_with_len}
use Rattle.std.specs.List.{range_with_len}
use Rattle.ii_base.specs.Entries.{ascend_from, are_documents}
use Rattle.ii_base.proofs.AsciiLemmas.{range_more}

row_ascends : (a n : ℕ) → a + n < 2147483647 → ascend_from a (range_with_len a n) ≡ true
row_ascends a zero h = refl
row_ascends a (suc n) h = rw (le-leb a a (omega arith), lt-ltb a 2147483647 (omega arith)) (row_ascends (a + 1) n (omega arith))

pub row_more : (n : ℕ) → range_with_len 0 n ++ n ∷ [] ≡ range_with_len 0 (n + 1)
row_more n =
    let next : suc n ≡ n + 1 = omega arith in
    let here : 0 + n ≡ n = omega arith in
    sym (ap (λ (k : ℕ). range_with_len 0 n ++ k ∷ []) here) ∙ sym (range_more 0 n) ∙ ap (range_with_len 0) next

pub row_documents : (n : ℕ) → n < 1000 → are_documents (range_with_len 0 n ++ n ∷ []) ≡ true
row_documents n h = ap are_documents (row_more n) ∙ row_ascends 0 (n + 1) (omega arith)

pub row_is_documents : (n : ℕ) → n < 1000 → are_documents (range_with_len 0 n) ≡ true
row_is_documents n h = row_ascends 0 n (omega arith)

pub row_length : (n : ℕ) → n ≡ length (range_with_len 0 n)
row_length n = sym (length-range_with_len 0 n)
