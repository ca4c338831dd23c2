-- Consecutive even documents.
use Rattle.std.proofs.Common.{◌≡◌, ℕ, zero, suc, ◌+◌, ◌*◌, ◌<◌, ◌≤◌, true, List, [], ◌∷◌, ◌++◌, length, refl, sym, ap, ◌∙◌, arith}
use Rattle.std.proofs.lemmas.Bool.{le-leb, lt-ltb}
use Rattle.ii_base.specs.Entries.{ascend_from, are_documents}

-- `n` even documents, starting at `first`
abbrev pub evens : ℕ → ℕ → List ℕ
evens first zero = []
evens first (suc n) = first ∷ evens (first + 2) n

evens_ascend : (least first n : ℕ) → least ≤ first → first + 2 * n < 2147483647 → ascend_from least (evens first n) ≡ true
evens_ascend least first zero h low = refl
evens_ascend least first (suc n) h low = rw (le-leb least first h, lt-ltb first 2147483647 (omega arith)) (evens_ascend (first + 1) (first + 2) n (omega arith) (omega arith))

evens_more : (first n : ℕ) → evens first n ++ (first + 2 * n) ∷ [] ≡ evens first (suc n)
evens_more first zero = let here : first + 2 * 0 ≡ first = omega arith in ap (λ (k : ℕ). k ∷ []) here
evens_more first (suc n) =
    let here : first + 2 * suc n ≡ first + 2 + 2 * n = omega arith in
    ap (λ (ks : List ℕ). first ∷ ks) (ap (λ (k : ℕ). evens (first + 2) n ++ k ∷ []) here ∙ evens_more (first + 2) n)

-- one document more
pub next_even : (n : ℕ) → evens 0 n ++ (2 * n) ∷ [] ≡ evens 0 (n + 1)
next_even n =
    let next : suc n ≡ n + 1 = omega arith in
    let here : 0 + 2 * n ≡ 2 * n = omega arith in
    sym (ap (λ (k : ℕ). evens 0 n ++ k ∷ []) here) ∙ evens_more 0 n ∙ ap (evens 0) next

pub evens_documents : (n : ℕ) → n < 2000 → are_documents (evens 0 n ++ (2 * n) ∷ []) ≡ true
evens_documents n h = ap are_documents (next_even n) ∙ evens_ascend 0 0 (n + 1) (omega arith) (omega arith)

pub evens_are_documents : (n : ℕ) → n < 2000 → are_documents (evens 0 n) ≡ true
evens_are_documents n h = evens_ascend 0 0 n (omega arith) (omega arith)

length-evens_from : (first n : ℕ) → n ≡ length (evens first n)
length-evens_from first zero = refl
length-evens_from first (suc n) = ap suc (length-evens_from (first + 2) n)

pub length-evens : (n : ℕ) → n ≡ length (evens 0 n)
length-evens n = length-evens_from 0 n
