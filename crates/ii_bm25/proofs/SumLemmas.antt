-- Sums that are capped.
use Rattle.std.proofs.Common.{◌≡◌, ◌∙◌, ℕ, ◌+◌, ◌-◌, ◌<◌, ◌≤◌, ◌^◌, List, [], ◌∷◌, drop, get_or, length, map, min, sum, refl, sym, ap, arith, zero, suc}
use Rattle.std.proofs.lemmas.List.{drop_more, get_or-map, length-map}
use Rattle.ii_base.specs.Terms.{TermState}
use Rattle.ii_bm25.specs.Statistics.{Statistics, idf_of, idfs_of}
use Rattle.std.proofs.lemmas.Grind.{common_steps}

sum_first : (n : ℕ) (ns : List ℕ) → sum (n ∷ ns) ≡ n + sum ns
sum_first n ns = grind (arith, common_steps)

capped : (m a b x : ℕ) → min m (min (a + x) m + b) ≡ min m (a + (x + b))
capped m a b x = omega (arith)

-- The terms from a place on add to what was summed before.
pub record IsSumming (s : Statistics) (terms : List TermState) (total place : ℕ) : Type 0 where
  pub below : total < 2 ^ 64
  pub left : min (2 ^ 64 - 1) (total + sum (drop place (map (idf_of s) terms))) ≡ idfs_of s terms

pub summed_none : (s : Statistics) (terms : List TermState) → IsSumming s terms 0 0
summed_none s terms = record { below = omega arith; left = ap (min (2 ^ 64 - 1)) (omega arith) }

pub summed_more : (s : Statistics) (terms : List TermState) (total place next : ℕ) (t : TermState) → place < length terms → t ≡ get_or terms place t → IsSumming s terms total place → next ≡ min (total + idf_of s t) (2 ^ 64 - 1) → next < 2 ^ 64 → IsSumming s terms next (place + 1)
summed_more s terms total place next t low is h more below =
    let xs = map (idf_of s) terms in
    let inside : place < length xs = omega (arith, low, length-map terms (idf_of s)) in
    let here : get_or xs place (idf_of s t) ≡ idf_of s t = get_or-map (idf_of s) terms place t (idf_of s t) low ∙ ap (idf_of s) (sym is) in
    let at : drop place xs ≡ idf_of s t ∷ drop (place + 1) xs = drop_more xs place (idf_of s t) inside ∙ ap (λ (x : ℕ). x ∷ drop (place + 1) xs) here in
    record {
      below = below;
      left = ap (λ (n : ℕ). min (2 ^ 64 - 1) (n + sum (drop (place + 1) xs))) more ∙ capped (2 ^ 64 - 1) total (sum (drop (place + 1) xs)) (idf_of s t)
          ∙ ap (λ (n : ℕ). min (2 ^ 64 - 1) (total + n)) (sym (sum_first (idf_of s t) (drop (place + 1) xs))) ∙ ap (λ (ys : List ℕ). min (2 ^ 64 - 1) (total + sum ys)) (sym at) ∙ h.left;
    }

ended : (xs : List ℕ) (place : ℕ) → length xs ≤ place → drop place xs ≡ []
ended [] zero beyond = refl
ended [] (suc place) beyond = refl
ended (x ∷ xs) zero beyond = absurd (omega (arith, beyond))
ended (x ∷ xs) (suc place) beyond = ended xs place (omega (arith, beyond))

pub summed_all : (s : Statistics) (terms : List TermState) (total place : ℕ) → length terms ≤ place → IsSumming s terms total place → total ≡ idfs_of s terms
summed_all s terms total place beyond h =
    let rest : drop place (map (idf_of s) terms) ≡ [] = ended (map (idf_of s) terms) place (omega (arith, beyond, length-map terms (idf_of s))) in
    let all = ap (λ (ys : List ℕ). min (2 ^ 64 - 1) (total + sum ys)) (sym rest) ∙ h.left in
    below_all all h.below
  where
    below_all : min (2 ^ 64 - 1) (total + sum []) ≡ idfs_of s terms → total < 2 ^ 64 → total ≡ idfs_of s terms
    below_all all below = let none : total + sum [] ≡ total = omega arith in let same : min (2 ^ 64 - 1) total ≡ idfs_of s terms = ap (min (2 ^ 64 - 1)) (sym none) ∙ all in omega (arith, same, below)
