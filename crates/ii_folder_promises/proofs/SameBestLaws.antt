-- The best of some documents are one list.
use Rattle.std.proofs.Common.{◌≡◌, ◌∙◌, ℕ, zero, suc, ◌+◌, ◌<◌, ◌≤◌, ◌&&◌, ◌==◌, inl, inr, Bool, true, false, List, [], ◌∷◌, ap, arith, cond, drop, get_or, length, refl, subst, sym, take}
use Rattle.std.specs.Prelude.{⊤}
use Rattle.std.specs.List.{AllByRecursion, sum_by}
use Rattle.std.proofs.lemmas.Bool.{and_parts, cases_eq}
use Rattle.std.proofs.lemmas.List.Sums.{sum_by-cons}
use Rattle.std.proofs.lemmas.List.Sorted.{sum_by-IsPermutation}
use Rattle.ii_scorer.specs.TopDocs.{AreBest, Precedes}
use Rattle.ii_scorer.specs.declared.top_docs.TopDocs.{TopDocs}

-- Each document comes before those after it, or is one of them.
abbrev InOrder : List (ℕ × ℕ) → Type 0
InOrder [] = ⊤
InOrder (a ∷ xs) = AllByRecursion (Precedes a) xs × InOrder xs

-- Each document is in one list as often as in the other.
abbrev HaveSame : List (ℕ × ℕ) → List (ℕ × ℕ) → Type 0
HaveSame xs ys = (f : ℕ × ℕ → ℕ) → sum_by f xs ≡ sum_by f ys

-- 1 for this document with its score
abbrev one_for : ℕ × ℕ → ℕ × ℕ → ℕ
one_for a b = cond ((a.0 == b.0) && (a.1 == b.1)) 1 0

precedes_all : (a : ℕ × ℕ) (xs : List (ℕ × ℕ)) → ((j : ℕ) → j < length xs → Precedes a (get_or xs j (0, 0))) → AllByRecursion (Precedes a) xs
precedes_all a [] each = tt
precedes_all a (x ∷ xs) each = (each 0 (omega arith), precedes_all a xs (λ j inside. each (suc j) (omega (arith, inside))))

in_order : (xs : List (ℕ × ℕ)) → ((i j : ℕ) → i ≤ j → j < length xs → Precedes (get_or xs i (0, 0)) (get_or xs j (0, 0))) → InOrder xs
in_order [] order = tt
in_order (x ∷ xs) order =
    (precedes_all x xs (λ j inside. order 0 (suc j) (omega arith) (omega (arith, inside))), in_order xs (λ i j up inside. order (suc i) (suc j) (omega (arith, up)) (omega (arith, inside))))

self_precedes : (a : ℕ × ℕ) → Precedes a a
self_precedes a = inr (refl, omega arith)

same_pair : (a b : ℕ × ℕ) → Precedes a b → Precedes b a → a ≡ b
same_pair a b (inl less) (inl more) = absurd (omega (arith, less, more))
same_pair a b (inl less) (inr (same, up)) = absurd (omega (arith, less, same))
same_pair a b (inr (same, up)) (inl more) = absurd (omega (arith, more, same))
same_pair a b (inr (same, up)) (inr (also, down)) =
    let second : a.1 ≡ b.1 = omega (arith, up, down) in
    λ j. (sym same j, second j)

-- a document that is in a list comes after one that comes before all
among : (a b : ℕ × ℕ) (xs : List (ℕ × ℕ)) → AllByRecursion (Precedes a) xs → 0 < sum_by (one_for b) xs → Precedes a b
among a b [] each some = absurd (omega (arith, some))
among a b (x ∷ xs) each some = by (among a b xs each.1) ((b.0 == x.0) && (b.1 == x.1)) refl
  where
    by : (0 < sum_by (one_for b) xs → Precedes a b) → (is : Bool) → ((b.0 == x.0) && (b.1 == x.1)) ≡ is → Precedes a b
    by others true is =
        let parts = and_parts (b.0 == x.0) (b.1 == x.1) is in
        let first : b.0 ≡ x.0 = grind (arith, parts) in
        let second : b.1 ≡ x.1 = grind (arith, parts) in
        subst (Precedes a) (λ j. (sym first j, sym second j)) each.0
    by others false is = others (let all = sum_by-cons (one_for b) x xs in let none : one_for b x ≡ 0 = ap (λ (c : Bool). cond {A = ℕ} c 1 0) is in omega (arith, some, all, none))

some_first : (a : ℕ × ℕ) (xs : List (ℕ × ℕ)) → 0 < sum_by (one_for a) (a ∷ xs)
some_first a xs =
    let all = sum_by-cons (one_for a) a xs in
    let here : one_for a a ≡ 1 = grind arith in
    omega (arith, all, here)

-- lists in this order of the same documents are the same
same_lists : (xs ys : List (ℕ × ℕ)) → InOrder xs → InOrder ys → HaveSame xs ys → xs ≡ ys
same_lists [] [] up also same = refl
same_lists [] (b ∷ ys) up also same = absurd (let all = same (λ _. 1) in let some = sum_by-cons (λ (_ : ℕ × ℕ). 1) b ys in omega (arith, all, some))
same_lists (a ∷ xs) [] up also same = absurd (let all = same (λ _. 1) in let some = sum_by-cons (λ (_ : ℕ × ℕ). 1) a xs in omega (arith, all, some))
same_lists (a ∷ xs) (b ∷ ys) up also same =
    let first = same_pair a b
    (among a b (a ∷ xs) (self_precedes a, up.0) (let some = some_first b ys in let all = same (one_for b) in omega (arith, some, all)))
    (among b a (b ∷ ys) (self_precedes b, also.0) (let some = some_first a xs in let all = same (one_for a) in omega (arith, some, all))) in
    let later = same_lists xs ys up.1 also.1 (λ f. let here = ap f first in let x = sum_by-cons f a xs in let y = sum_by-cons f b ys in let all = same f in omega (arith, here, x, y, all)) in
    λ j. first j ∷ later j

pub same_best : (docs : TopDocs) (scored xs ys : List (ℕ × ℕ)) → AreBest docs scored xs → AreBest docs scored ys → xs ≡ ys
same_best docs scored xs ys x y =
    let same = same_lists x.ranked y.ranked (in_order x.ranked x.are_ranked.order) (in_order y.ranked y.are_ranked.order)
    (λ f. sum_by-IsPermutation f scored x.ranked x.are_ranked.same ∙ sym (sum_by-IsPermutation f scored y.ranked y.are_ranked.same)) in
    x.best_are ∙ ap (λ (row : List (ℕ × ℕ)). take docs.limit (drop docs.offset row)) same ∙ sym y.best_are
