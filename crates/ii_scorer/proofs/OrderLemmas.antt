-- The score by some scorers doesn't depend on their order.
use Rattle.std.proofs.Common.{◌≡◌, ◌∙◌, ℕ, zero, suc, ◌+◌, ◌-◌, ◌^◌, ◌<◌, List, [], ◌∷◌, Option, None, Some, min, refl, sym, ap, arith}
use Rattle.std.specs.List.{AllByRecursion, sum_by}
use Rattle.std.specs.List.Sorted.{IsPermutation}
use Rattle.std.proofs.lemmas.List.Elements.{All-from_recursion, recursion_from_All}
use Rattle.std.proofs.lemmas.List.Sorted.{All-permutation, IsPermutation-sym, sum_by-IsPermutation}
use Rattle.std.proofs.lemmas.List.Sums.{sum_by-cons}
use Rattle.ii_scorer.specs.Combinations.{any_of, either}
use Rattle.ii_scorer.specs.Scorers.{IsBounded, IsUpTo, ScorerState, score_of, scores_at}
use Rattle.ii_scorer.proofs.SumLemmas.{any_cons}

abbrev value : Option ℕ → ℕ
value None = 0
value (Some score) = score

abbrev number : Option ℕ → ℕ
number None = 0
number (Some score) = 1

-- the score of so many parts with this sum
abbrev whole : ℕ → ℕ → Option ℕ
whole zero sum = None
whole (suc count) sum = Some (min (2 ^ 64 - 1) sum)

whole_more : (most count sum : ℕ) (score : Option ℕ) → most < 2 ^ 64 → (count ≡ 0 → sum ≡ 0) → IsUpTo most score → either score (whole count sum) ≡ whole (number score + count) (value score + sum)
whole_more most count sum None few none up = let same : count ≡ 0 + count = omega arith in let all : sum ≡ 0 + sum = omega arith in λ j. whole (same j) (all j)
whole_more most zero sum (Some s) few none up = let empty = none refl in ap (λ (n : ℕ). Some n) (omega (arith, few, up, empty))
whole_more most (suc count) sum (Some s) few none up = let more : suc (suc count) ≡ 1 + suc count = omega arith in ap (λ (n : ℕ). Some n) (omega (arith, few, up)) ∙ ap (λ (n : ℕ). whole n (s + sum)) more

-- without scores their sum is 0
none_summed : (ss : List ScorerState) (doc : ℕ) → sum_by (λ (s : ScorerState). number (score_of s doc)) ss ≡ 0 → sum_by (λ (s : ScorerState). value (score_of s doc)) ss ≡ 0
none_summed [] doc none = refl
none_summed (s ∷ ss) doc none = by (none_summed ss doc) (score_of s doc) refl
  where
    count : number (score_of s doc) + sum_by (λ (t : ScorerState). number (score_of t doc)) ss ≡ 0
    count = sym (sum_by-cons (λ (t : ScorerState). number (score_of t doc)) s ss) ∙ none

    by : (sum_by (λ (t : ScorerState). number (score_of t doc)) ss ≡ 0 → sum_by (λ (t : ScorerState). value (score_of t doc)) ss ≡ 0) → (score : Option ℕ) → score_of s doc ≡ score → sum_by (λ (t : ScorerState). value (score_of t doc)) (s ∷ ss) ≡ 0
    by later None is =
        let rest = later (let all = count in omega (arith, all)) in
        let here = ap value is in
        sum_by-cons (λ (t : ScorerState). value (score_of t doc)) s ss ∙ omega (arith, rest, here)
    by later (Some n) is = let here = ap number is in let all = count in absurd (omega (arith, here, all))

any_whole : (ss : List ScorerState) (doc : ℕ) → AllByRecursion IsBounded ss → any_of (scores_at ss doc) ≡ whole (sum_by (λ (s : ScorerState). number (score_of s doc)) ss) (sum_by (λ (s : ScorerState). value (score_of s doc)) ss)
any_whole [] doc all = refl
any_whole (s ∷ ss) doc all =
    any_cons (score_of s doc) (scores_at ss doc) ∙ ap (either (score_of s doc)) (any_whole ss doc all.1)
    ∙ whole_more s.most (sum_by (λ (t : ScorerState). number (score_of t doc)) ss) (sum_by (λ (t : ScorerState). value (score_of t doc)) ss) (score_of s doc) all.0.fits (none_summed ss doc) (all.0.each doc)
    ∙ (λ j. whole (sym (sum_by-cons (λ (t : ScorerState). number (score_of t doc)) s ss) j) (sym (sum_by-cons (λ (t : ScorerState). value (score_of t doc)) s ss) j))

pub bounded_in_order : (ss sorted : List ScorerState) → IsPermutation ss sorted → AllByRecursion IsBounded sorted → AllByRecursion IsBounded ss
bounded_in_order ss sorted same all = recursion_from_All IsBounded ss (All-permutation IsBounded sorted ss (IsPermutation-sym ss sorted same) (All-from_recursion IsBounded sorted all))

pub any_in_order : (ss sorted : List ScorerState) (doc : ℕ) → IsPermutation ss sorted → AllByRecursion IsBounded sorted → any_of (scores_at sorted doc) ≡ any_of (scores_at ss doc)
any_in_order ss sorted doc same all =
    any_whole sorted doc all
    ∙ (λ j. whole (sum_by-IsPermutation (λ (t : ScorerState). number (score_of t doc)) ss sorted same j) (sum_by-IsPermutation (λ (t : ScorerState). value (score_of t doc)) ss sorted same j))
    ∙ sym (any_whole ss doc (bounded_in_order ss sorted same all))
