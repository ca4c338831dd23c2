-- Laws of sums of scores.
use Rattle.std.proofs.Common.{◌≡◌, ◌∙◌, ℕ, List, [], ◌∷◌, ◌++◌, Option, None, Some, refl, sym, ap, arith}
use Rattle.std.specs.List.{fold}
use Rattle.ii_scorer.specs.Combinations.{add, any_of, both, either}

-- sums of scores don't depend on how they are grouped
pub add_grouped : (a b c : ℕ) → add (add a b) c ≡ add a (add b c)
add_grouped a b c = omega arith

either_grouped : (a b c : Option ℕ) → either (either a b) c ≡ either a (either b c)
either_grouped None b c = refl
either_grouped (Some a) None c = refl
either_grouped (Some a) (Some b) None = refl
either_grouped (Some a) (Some b) (Some c) = ap (λ (s : ℕ). Some s) (add_grouped a b c)

-- no score more
pub either_none : (score : Option ℕ) → either score None ≡ score
either_none None = refl
either_none (Some score) = refl

-- a score in front of those of some parts
pub either_first : (score : Option ℕ) (scores : List (Option ℕ)) → fold either score scores ≡ either score (any_of scores)
either_first score scores = ap (λ (s : Option ℕ). fold either s scores) (sym (either_none score)) ∙ later score None scores
  where
    later : (s t : Option ℕ) (row : List (Option ℕ)) → fold either (either s t) row ≡ either s (fold either t row)
    later s t [] = refl
    later s t (r ∷ row) = ap (λ (u : Option ℕ). fold either u row) (either_grouped s t r) ∙ later s (either t r) row

-- one part more
pub any_cons : (score : Option ℕ) (scores : List (Option ℕ)) → any_of (score ∷ scores) ≡ either score (any_of scores)
any_cons score scores = either_first score scores

-- some parts, and others
pub any_append : (xs ys : List (Option ℕ)) → any_of (xs ++ ys) ≡ either (any_of xs) (any_of ys)
any_append [] ys = refl
any_append (x ∷ xs) ys =
    any_cons x (xs ++ ys) ∙ ap (either x) (any_append xs ys) ∙ sym (either_grouped x (any_of xs) (any_of ys)) ∙ ap (λ (s : Option ℕ). either s (any_of ys)) (sym (any_cons x xs))

-- what each has to match nothing matches, if one doesn't
pub both_never : (scores : List (Option ℕ)) → fold both None scores ≡ None
both_never [] = refl
both_never (s ∷ scores) = both_never scores
