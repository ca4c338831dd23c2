-- Which segments are merged, and how many are left.
use Rattle.std.proofs.Common.{◌≡◌, ℕ, ◌+◌, ◌*◌, ◌<◌, ◌≤◌, ◌^◌, Bool, true, false, List, [], ◌∷◌, ◌++◌, drop, length, length-append, min, nat_le, nat_lt, take, ◌-◌, refl, arith}
use Rattle.std.specs.List.{sum}
use Rattle.std.proofs.Math.Pow.{pow_mono}
use Rattle.std.proofs.Math.Nat.{pow-succ'}
use Rattle.std.proofs.lemmas.Bool.{leb-false, leb-true, lt-leb, ltb-false, ltb-true, lt-ltb}
use Rattle.std.proofs.lemmas.List.Sums.{sum_by-append, sum_by-cons, sum_by-take-drop}
use Rattle.nequllpa_merging.specs.MergePolicy.{IsSettled, MergeSettles, SettledAreFew, first_fitting, first_outgrown, is_outgrown}

-- a row with the numbers from a place on in one
abbrev in_one : ℕ → List ℕ → List ℕ
in_one first counts = take first counts ++ sum (drop first counts) ∷ []

-- it adds up to the same
same_sum : (first : ℕ) (counts : List ℕ) → sum (in_one first counts) ≡ sum counts
same_sum first counts =
    let parts = sum_by-append (λ (x : ℕ). x) (take first counts) (sum (drop first counts) ∷ []) in
    let one = sum_by-cons (λ (x : ℕ). x) (sum (drop first counts)) [] in
    let whole = sum_by-take-drop (λ (x : ℕ). x) counts first in
    omega (arith, parts, one, whole)

-- a row with a last number
not_empty : (row : List ℕ) (n : ℕ) → nat_lt 0 (length (row ++ n ∷ [])) ≡ true
not_empty row n = let many = length-append row (n ∷ []) in lt-ltb 0 (length (row ++ n ∷ [])) (omega (arith, many))

-- a number is more than a row that isn't empty
more_than : (n m : ℕ) (row : List ℕ) → is_outgrown n (m ∷ row) ≡ false → sum (m ∷ row) < n
more_than n m row grown = leb-false n (sum (m ∷ row)) (rw (lt-ltb 0 (length (m ∷ row)) (omega arith)) at grown)

settles : (counts : List ℕ) → first_outgrown counts < length counts → IsSettled (in_one (first_outgrown counts) counts)
settles [] inside = absurd (omega (arith, inside))
settles (n ∷ behind) inside = by (is_outgrown n behind) refl inside (settles behind)
  where
    later : (behind : List ℕ) → is_outgrown n behind ≡ false → first_outgrown behind < length behind → is_outgrown n (in_one (first_outgrown behind) behind) ≡ false
    later [] grown short = absurd (omega (arith, short))
    later (m ∷ row) grown short =
        let more = more_than n m row grown in
        let same = same_sum (first_outgrown (m ∷ row)) (m ∷ row) in
        rw (not_empty (take (first_outgrown (m ∷ row)) (m ∷ row)) (sum (drop (first_outgrown (m ∷ row)) (m ∷ row))), same, lt-leb n (sum (m ∷ row)) more) refl

    by : (t : Bool) → is_outgrown n behind ≡ t → first_outgrown (n ∷ behind) < length (n ∷ behind) → (first_outgrown behind < length behind → IsSettled (in_one (first_outgrown behind) behind))
        → IsSettled (in_one (first_outgrown (n ∷ behind)) (n ∷ behind))
    by true grown short settled = rw grown (refl, tt)
    by false grown short settled =
        let low = rw grown at short in
        let fewer : first_outgrown behind < length behind = omega (arith, low) in
        rw grown (later behind grown fewer, settled fewer)

-- where none is outgrown
settled_before : (counts : List ℕ) → length counts ≤ first_outgrown counts → IsSettled counts
settled_before [] over = tt
settled_before (n ∷ behind) over = by (is_outgrown n behind) refl over (settled_before behind)
  where
    by : (t : Bool) → is_outgrown n behind ≡ t → length (n ∷ behind) ≤ first_outgrown (n ∷ behind) → (length behind ≤ first_outgrown behind → IsSettled behind) → IsSettled (n ∷ behind)
    by true grown over settled = let none = rw grown at over in absurd (omega (arith, none))
    by false grown over settled = let more = rw grown at over in (grown, settled (omega (arith, more)))

pub merges_settle : (counts : List ℕ) → MergeSettles counts
merges_settle counts = by (nat_lt (first_outgrown counts) (length counts)) refl
  where
    by : (t : Bool) → nat_lt (first_outgrown counts) (length counts) ≡ t → MergeSettles counts
    by true test = record { settled = rw test (settles counts (ltb-true (first_outgrown counts) (length counts) test)); total = rw test (same_sum (first_outgrown counts) counts) }
    by false test = record { settled = rw test (settled_before counts (ltb-false (first_outgrown counts) (length counts) test)); total = rw test refl }

-- a settled row doubles from number to number
doubles : (counts : List ℕ) → IsSettled counts → 2 ^ length counts ≤ 2 * (sum counts + 1)
doubles [] settled = omega arith
doubles (n ∷ []) settled = omega arith
doubles (n ∷ m ∷ row) settled =
    let more = more_than n m row settled.0 in
    let whole = sum_by-cons (λ (x : ℕ). x) n (m ∷ row) in
    let fewer = doubles (m ∷ row) settled.1 in
    let twice : 2 ^ length (n ∷ m ∷ row) ≡ 2 * 2 ^ length (m ∷ row) = pow-succ' 2 (length (m ∷ row)) in
    omega (arith, more, whole, fewer, twice)

pub settled_are_few : SettledAreFew
settled_are_few counts settled low = by (nat_le (length counts) 32) refl
  where
    by : (t : Bool) → nat_le (length counts) 32 ≡ t → length counts ≤ 32
    by true few = leb-true (length counts) 32 few
    by false many =
        let long = leb-false (length counts) 32 many in
        let high : 2 ^ 33 ≤ 2 ^ length counts = pow_mono {i = 33} {j = length counts} (omega (arith, long)) in
        let least = doubles counts settled in
        absurd (omega (arith, high, least, low))

-- The segments from a place on were looked at, from the last one.
pub record IsScanning (counts : List ℕ) (place first behind : ℕ) : Type 0 where
  pub within : place ≤ length counts
  pub first_is : first ≡ place + first_outgrown (drop place counts)
  pub behind_is : behind ≡ min (2 ^ 64 - 1) (sum (drop place counts))

-- The lengths of segments from a place on were added, from the last one.
pub record IsAdding (limit : ℕ) (lens : List ℕ) (place first total : ℕ) : Type 0 where
  pub within : place ≤ length lens
  pub first_is : first ≡ place + first_fitting limit (drop place lens)
  pub total_is : total ≡ min (2 ^ 128 - 1) (sum (drop place lens))
