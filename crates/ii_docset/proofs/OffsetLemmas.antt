-- Laws of positions that are read to the end of a vector, and of an offset that is added to them.
use Rattle.std.proofs.Common.{◌≡◌, ℕ, zero, suc, ◌+◌, ◌-◌, ◌^◌, ◌<◌, ◌≤◌, List, [], ◌∷◌, ◌++◌, length, take, drop, map, get_or, set, ◌∙◌, ap, refl, arith, append_assoc, length-append, length-drop}
use Rattle.std.specs.Prelude.{min, replicate}
use Rattle.std.specs.List.{All}
use Rattle.std.proofs.Math.Seq.{drop-cons, drop-append_seam, take-append_seam}
use Rattle.std.proofs.lemmas.List.{drop-drop, drop-set-lt, length-map, length-replicate, take_all, take_more_set}
use Rattle.std.proofs.lemmas.List.Elements.{All-drop}

-- a value is raised in its place
pub raised : (offset : ℕ) (vs : List ℕ) (i : ℕ) → i < length vs
    → take (i + 1) (set vs i (get_or vs i 0 + offset)) ++ map (λ (v : ℕ). v + offset) (drop (i + 1) (set vs i (get_or vs i 0 + offset))) ≡ take i vs ++ map (λ (v : ℕ). v + offset) (drop i vs)
raised offset vs i inside =
    let next : i + 1 ≡ suc i = omega arith in
    rw (take_more_set vs i (get_or vs i 0 + offset) inside, drop-set-lt (i + 1) vs i (get_or vs i 0 + offset) (omega arith), drop-cons vs i 0 inside, next)
    (append_assoc (take i vs) ((get_or vs i 0 + offset) ∷ []) (map (λ (v : ℕ). v + offset) (drop (suc i) vs)))

-- and the values after it still fit
pub still_fit : (offset : ℕ) (vs : List ℕ) (i : ℕ) → All (λ (v : ℕ). v + offset < 2 ^ 32) (drop i vs) → All (λ (v : ℕ). v + offset < 2 ^ 32) (drop (i + 1) (set vs i (get_or vs i 0 + offset)))
still_fit offset vs i h =
    rw (drop-set-lt (i + 1) vs i (get_or vs i 0 + offset) (omega arith), ← drop-drop 1 i vs) (All-drop (λ (v : ℕ). v + offset < 2 ^ 32) 1 (drop i vs) h)

-- the front of a list is kept by longer ones
kept : (xs ys : List ℕ) (n m : ℕ) → length xs ≡ n → n ≤ m → take n (take m (xs ++ ys)) ≡ xs
kept [] ys zero m size low = refl
kept [] ys (suc n) m size low = absurd (omega (arith, size))
kept (x ∷ xs) ys zero m size low = absurd (omega (arith, size))
kept (x ∷ xs) ys (suc n) zero size low = absurd (omega (arith, low))
kept (x ∷ xs) ys (suc n) (suc m) size low = ap (λ (l : List ℕ). x ∷ l) (kept xs ys n m (omega (arith, size)) (omega (arith, low)))

-- Positions are read to the end of a list that was made longer, by at least their number.
pub record IsReadOn (old items front back read positions : List ℕ) (start most size count : ℕ) : Type 0 where
  pub start_is : start ≡ length old
  pub size_is : size ≡ start + most
  pub items_are : items ≡ take (start + most) old ++ replicate (start + most - start) 0
  pub front_is : front ≡ take start items
  pub back_is : back ≡ drop start items
  pub read_is : read ≡ take (length back) (drop 0 positions) ++ drop (length positions - 0) back
  pub count_is : count ≡ min (length back) (length positions - 0)
  pub few : length positions ≤ most

-- then the old list is followed by them
pub read_on : (old items front back read positions later : List ℕ) (start most size count : ℕ) → IsReadOn old items front back read positions start most size count
    → take (start + count) (take size (front ++ read ++ later)) ≡ old ++ positions
read_on old items front back read positions later start most size count r =
    let start_is = r.start_is in
    let few = r.few in
    let whole = take_all (start + most) old (omega (arith, start_is)) in
    let zeros = length-replicate {A = ℕ} (start + most - start) 0 in
    let same : items ≡ old ++ replicate (start + most - start) 0 = r.items_are ∙ ap (λ (l : List ℕ). l ++ replicate (start + most - start) 0) whole in
    let size_is = r.size_is in
    let many = ap length same ∙ length-append old (replicate (start + most - start) 0) in
    let left = ap length r.back_is ∙ length-drop start items in
    let first : front ≡ old = r.front_is ∙ ap (λ (n : ℕ). take n items) start_is ∙ ap (take (length old)) same ∙ take-append_seam old (replicate (start + most - start) 0) in
    let second : read ≡ positions ++ drop (length positions - 0) back = r.read_is ∙ ap (λ (l : List ℕ). l ++ drop (length positions - 0) back) (take_all (length back) positions (omega (arith, few, left, many, zeros, start_is))) in
    let count_is = r.count_is in
    let joined = length-append old positions in
    rw (first, second, ← append_assoc old positions (drop (length positions - 0) back), append_assoc (old ++ positions) (drop (length positions - 0) back) later)
    (kept (old ++ positions) (drop (length positions - 0) back ++ later) (start + count) size (omega (arith, few, left, many, zeros, start_is, count_is, joined)) (omega (arith, few, left, many, zeros, start_is, size_is, count_is)))

-- and an offset is added to them alone
pub raised_on : (old items front back values positions later : List ℕ) (start size offset : ℕ) → start ≡ length old → items ≡ old ++ positions → size ≡ length items → front ≡ take start items → back ≡ drop start items
    → values ≡ map (λ (p : ℕ). p + offset) back → take size (front ++ values ++ later) ≡ old ++ map (λ (p : ℕ). p + offset) positions
raised_on old items front back values positions later start size offset start_is items_are size_is front_is back_is values_are =
    let first : front ≡ old = front_is ∙ ap (λ (n : ℕ). take n items) start_is ∙ ap (take (length old)) items_are ∙ take-append_seam old positions in
    let second : back ≡ positions = back_is ∙ ap (λ (n : ℕ). drop n items) start_is ∙ ap (drop (length old)) items_are ∙ drop-append_seam old positions in
    let third : values ≡ map (λ (p : ℕ). p + offset) positions = values_are ∙ ap (map (λ (p : ℕ). p + offset)) second in
    let many = length-map positions (λ (p : ℕ). p + offset) in
    let joined = ap length items_are ∙ length-append old positions in
    let raised_size = length-append old (map (λ (p : ℕ). p + offset) positions) in
    let whole : size ≡ length (old ++ map (λ (p : ℕ). p + offset) positions) = omega (arith, size_is, many, joined, raised_size) in
    rw (first, third, whole) (take-append_seam (old ++ map (λ (p : ℕ). p + offset) positions) later)
