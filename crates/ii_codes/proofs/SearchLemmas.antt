-- Laws of the search in a block.
use Rattle.std.proofs.Common.{◌≡◌, ℕ, zero, suc, ◌+◌, ◌-◌, ◌*◌, ◌/◌, ◌<◌, ◌≤◌, ◌^◌, Bool, true, false, List, [], ◌∷◌, length, get_or, nat_lt, refl, sym, ap, arith}
use Rattle.std.specs.List.Sorted.{IsNonDecreasing}
use Rattle.std.proofs.lemmas.Bool.{lt-ltb, ltb-true, ltb-false, le-ltb}
use mir.Val.{bool_byte}
use Rattle.ii_codes.specs.Search.{count_below}

-- a place that parts a list at a target is the count of what lies below it
pub parted_count : (target : ℕ) (xs : List ℕ) (n : ℕ) → n ≤ length xs → ((i : ℕ) → i < n → get_or xs i 0 < target) → ((i : ℕ) → n ≤ i → i < length xs → target ≤ get_or xs i 0) → n ≡ count_below target xs
parted_count target [] zero within low high = refl
parted_count target [] (suc n) within low high = absurd (omega arith)
parted_count target (x ∷ xs) zero within low high =
    rw (le-ltb x target (high 0 (omega arith) (omega arith))) (parted_count target xs zero (omega arith) (λ i none. absurd (omega arith)) (λ i above inside. high (suc i) (omega arith) (omega arith)))
parted_count target (x ∷ xs) (suc n) within low high =
    rw (lt-ltb x target (low 0 (omega arith))) (ap suc (parted_count target xs n (omega arith) (λ i inside. low (suc i) (omega arith)) (λ i above inside. high (suc i) (omega arith) (omega arith))))

sorted_tail : (x : ℕ) (xs : List ℕ) → IsNonDecreasing (x ∷ xs) → IsNonDecreasing xs
sorted_tail x xs h = λ i j d order within. h (suc i) (suc j) d (omega arith) (omega arith)

none_below : (target x : ℕ) (xs : List ℕ) → IsNonDecreasing (x ∷ xs) → target ≤ x → count_below target (x ∷ xs) ≡ 0
none_below target x xs h above =
    sym (parted_count target (x ∷ xs) zero (omega arith) (λ i none. absurd (omega arith)) (λ i past inside. let up = h zero i 0 (omega arith) inside in omega arith))

-- what doesn't fall lies below the target up to the count, and not from there on
low_cases : (target x : ℕ) (xs : List ℕ) (i : ℕ) (t : Bool) → ((k : ℕ) → k < count_below target xs → get_or xs k 0 < target) → IsNonDecreasing (x ∷ xs) → nat_lt x target ≡ t → i < count_below target (x ∷ xs) → get_or (x ∷ xs) i 0 < target
low_cases target x xs zero true later h test inside = ltb-true x target test
low_cases target x xs (suc i) true later h test inside = later i (let count = rw test at inside in omega arith)
low_cases target x xs i false later h test inside = absurd (let none = none_below target x xs h (ltb-false x target test) in omega arith)

pub low_below : (target : ℕ) (xs : List ℕ) (i : ℕ) → IsNonDecreasing xs → i < count_below target xs → get_or xs i 0 < target
low_below target [] i h inside = absurd (omega arith)
low_below target (x ∷ xs) i h inside = low_cases target x xs i (nat_lt x target) (λ k within. low_below target xs k (sorted_tail x xs h) within) h refl inside

high_cases : (target x : ℕ) (xs : List ℕ) (i : ℕ) (t : Bool) → ((k : ℕ) → count_below target xs ≤ k → k < length xs → target ≤ get_or xs k 0) → IsNonDecreasing (x ∷ xs) → nat_lt x target ≡ t → count_below target (x ∷ xs) ≤ i → i < length (x ∷ xs) → target ≤ get_or (x ∷ xs) i 0
high_cases target x xs zero true later h test past inside = absurd (let count = rw test at past in omega arith)
high_cases target x xs (suc i) true later h test past inside = later i (let count = rw test at past in omega arith) (omega arith)
high_cases target x xs i false later h test past inside =
    let first = ltb-false x target test in
    let up = h zero i 0 (omega arith) inside in
    omega arith

pub high_above : (target : ℕ) (xs : List ℕ) (i : ℕ) → IsNonDecreasing xs → count_below target xs ≤ i → i < length xs → target ≤ get_or xs i 0
high_above target [] i h past inside = absurd (omega arith)
high_above target (x ∷ xs) i h past inside = high_cases target x xs i (nat_lt x target) (λ k after within. high_above target xs k (sorted_tail x xs h) after within) h refl past inside

-- The state of a search: the result is in a range of places from its start on.
pub record IsSearching (target : ℕ) (xs : List ℕ) (start size : ℕ) : Type 0 where
  pub some : 0 < size
  pub within : start + size ≤ length xs
  pub below : (i : ℕ) → i < start → get_or xs i 0 < target
  pub above : (i : ℕ) → start + size ≤ i + 1 → i < length xs → target ≤ get_or xs i 0

pub goes_on : (target : ℕ) (xs : List ℕ) (start half : ℕ) (t : Bool) → IsNonDecreasing xs → 0 < half → IsSearching target xs start (2 * half) → nat_lt (get_or xs (start + half - 1) 0) target ≡ t → IsSearching target xs (start + half * bool_byte t) half
goes_on target xs start half true h some s test =
    let within = s.within in
    let low = ltb-true (get_or xs (start + half - 1) 0) target test in
    record {
      some = some;
      within = omega arith;
      below = λ i inside. let up = h i (start + half - 1) 0 (omega arith) (omega arith) in omega arith;
      above = λ i past inside. s.above i (omega arith) inside;
    }
goes_on target xs start half false h some s test =
    let within = s.within in
    let high = ltb-false (get_or xs (start + half - 1) 0) target test in
    record {
      some = some;
      within = omega arith;
      below = λ i inside. s.below i (omega arith);
      above = λ i past inside. let up = h (start + half - 1) i 0 (omega arith) inside in omega arith;
    }

-- What each of seven steps halves.
pub record Halves (i : ℕ) : Type 0 where
  pub before : 128 / 2 ^ i ≡ 2 * (64 / 2 ^ i)
  pub after : 128 / 2 ^ (i + 1) ≡ 64 / 2 ^ i
  pub some : 0 < 64 / 2 ^ i

pub halves : (i : ℕ) → i < 7 → Halves i
halves zero h = record { before = refl; after = refl; some = omega arith }
halves (suc zero) h = record { before = refl; after = refl; some = omega arith }
halves (suc (suc zero)) h = record { before = refl; after = refl; some = omega arith }
halves (suc (suc (suc zero))) h = record { before = refl; after = refl; some = omega arith }
halves (suc (suc (suc (suc zero)))) h = record { before = refl; after = refl; some = omega arith }
halves (suc (suc (suc (suc (suc zero))))) h = record { before = refl; after = refl; some = omega arith }
halves (suc (suc (suc (suc (suc (suc zero)))))) h = record { before = refl; after = refl; some = omega arith }
halves (suc (suc (suc (suc (suc (suc (suc n))))))) h = absurd (omega arith)

pub next_step : (target : ℕ) (xs : List ℕ) (start i : ℕ) → IsNonDecreasing xs → i < 7 → IsSearching target xs start (128 / 2 ^ i)
    → IsSearching target xs (start + 64 / 2 ^ i * bool_byte (nat_lt (get_or xs (start + 64 / 2 ^ i - 1) 0) target)) (128 / 2 ^ (i + 1))
next_step target xs start i h few s =
    let halved = halves i few in
    rw halved.after (goes_on target xs start (64 / 2 ^ i) (nat_lt (get_or xs (start + 64 / 2 ^ i - 1) 0) target) h halved.some (rw halved.before at s) refl)

pub begins : (target : ℕ) (xs : List ℕ) → length xs ≡ 128 → target ≤ get_or xs 127 0 → IsSearching target xs 0 128
begins target xs many last =
    record { some = omega arith; within = omega arith; below = λ i none. absurd (omega arith); above = λ i past inside. let end : i ≡ 127 = omega arith in rw end last }

pub ends : (target : ℕ) (xs : List ℕ) (start : ℕ) → IsSearching target xs start 1 → start ≡ count_below target xs
ends target xs start s =
    let within = s.within in
    parted_count target xs start (omega arith) s.below (λ i past inside. s.above i (omega arith) inside)
