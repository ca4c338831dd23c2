-- Laws of windows of tokens.
use Rattle.std.proofs.Common.{◌≡◌, ◌∙◌, ℕ, zero, suc, ◌+◌, ◌-◌, ◌*◌, ◌<◌, ◌≤◌, Bool, true, false, List, [], ◌∷◌, ap, arith, drop, drop-cons, get_or, length, length-drop, nat_eq, refl, sym, take}
use Rattle.std.proofs.lemmas.List.{take_all}
use Rattle.std.specs.Prelude.{None, Option, Some}
use Rattle.std.specs.List.{list_any}
use Rattle.ii_snippet.specs.declared.windows.SnippetToken.{SnippetToken}
use Rattle.ii_snippet.specs.Windows.{IsFirstGreatest, num_different, weight, words_in}

pub few_different : (ns : List ℕ) → num_different ns ≤ length ns
few_different [] = omega arith
few_different (n ∷ ns) = by_case (list_any (nat_eq n) ns) refl (few_different ns)
  where
    by_case : (b : Bool) → list_any (nat_eq n) ns ≡ b → num_different ns ≤ length ns → num_different (n ∷ ns) ≤ length (n ∷ ns)
    by_case true is few = rw is (omega (arith, few))
    by_case false is few = rw is (omega (arith, few))

-- tokens have at most as many wanted words
pub words_are_few : (ts : List SnippetToken) → length (words_in ts) ≤ length ts
words_are_few [] = omega arith
words_are_few (t ∷ ts) = by_case t.wanted refl (words_are_few ts)
  where
    by_case : (o : Option ℕ) → t.wanted ≡ o → length (words_in ts) ≤ length ts → length (words_in (t ∷ ts)) ≤ length (t ∷ ts)
    by_case None is few = rw is (omega (arith, few))
    by_case (Some word) is few = rw is (omega (arith, few))

-- no weight is greater
pub weighs_little : (ts : List SnippetToken) → weight (words_in ts) ≤ length ts * 4294967297
weighs_little ts = omega (arith, few_different (words_in ts), words_are_few ts)

-- the tokens after a place, as a slice of all
pub tail_is : (ts : List SnippetToken) (place : ℕ) → take (length ts - (place + 1)) (drop (place + 1) ts) ≡ drop (place + 1) ts
tail_is ts place = take_all (length ts - (place + 1)) (drop (place + 1) ts) (omega (arith, length-drop (place + 1) ts))

-- the tokens from a place on
pub from_place : (ts : List SnippetToken) (place : ℕ) (d : SnippetToken) → place < length ts → drop place ts ≡ get_or ts place d ∷ drop (place + 1) ts
from_place ts place d within =
    let next : suc place ≡ place + 1 = omega arith in
    drop-cons ts place d within ∙ ap (λ (n : ℕ). get_or ts place d ∷ drop n ts) next

-- the weight of one token more is counted
pub counted : (ts : List SnippetToken) (place : ℕ) (d : SnippetToken) (w s : ℕ) → place < length ts → w + weight (words_in (drop place ts)) ≡ weight (words_in ts)
    → s + weight (words_in (take (length ts - (place + 1)) (drop (place + 1) ts))) ≡ weight (words_in (get_or ts place d ∷ take (length ts - (place + 1)) (drop (place + 1) ts)))
    → w + s + weight (words_in (drop (place + 1) ts)) ≡ weight (words_in ts)
counted ts place d w s within before one =
    let same : s + weight (words_in (drop (place + 1) ts)) ≡ weight (words_in (get_or ts place d ∷ drop (place + 1) ts)) = rw (sym (tail_is ts place)) one in
    let here : weight (words_in (drop place ts)) ≡ weight (words_in (get_or ts place d ∷ drop (place + 1) ts)) = ap (λ (us : List SnippetToken). weight (words_in us)) (from_place ts place d within) in
    omega (arith, before, same, here)

-- the first place is the best of one
pub first_alone : (number : ℕ → ℕ) → IsFirstGreatest number 1 0
first_alone number = record {
  below = omega arith;
  greatest = λ place within. by_zero place within;
  first = λ place before. absurd (omega (arith, before));
}
  where
    by_zero : (place : ℕ) → place < 1 → number place ≤ number 0
    by_zero zero within = omega arith
    by_zero (suc place) within = absurd (omega (arith, within))
