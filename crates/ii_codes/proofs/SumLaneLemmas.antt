-- Sums of entries in lanes.
use Rattle.std.proofs.Common.{◌≡◌, ℕ, ◌+◌, ◌-◌, ◌*◌, ◌^◌, ◌≤◌, List, [], ◌∷◌, ◌++◌, length, drop, refl, sym, ap, ◌∙◌, arith}
use lib.Lanes.{Each1, zip2, sum_l}
use lib.LanesLaws.{sum-zip2, sum_bound, length-zip2}
use Rattle.std.proofs.Math.Pow.{pow_mono}
use Rattle.std.proofs.lemmas.List.{drop_all}
use Rattle.std.proofs.lemmas.List.Sums.{sum_by-cons}
use Rattle.std.proofs.lemmas.Simd.{Each1-from_get_or}
use Rattle.std.specs.List.{sum}
use Rattle.ii_codes.specs.Packed.{unpacked}
use Rattle.ii_codes.proofs.PackedLemmas.{bits_in-lt}
use Rattle.ii_codes.proofs.PackedLaws.{length-unpacked, get_or-unpacked}

sum_l-append : (xs ys : List ℕ) → sum_l (xs ++ ys) ≡ sum_l xs + sum_l ys
sum_l-append [] ys = omega arith
sum_l-append (x ∷ xs) ys = omega (arith, sum_l-append xs ys)

sum_l-is : (xs : List ℕ) → sum_l xs ≡ sum xs
sum_l-is [] = refl
sum_l-is (x ∷ xs) = ap (λ (s : ℕ). x + s) (sum_l-is xs) ∙ sym (sum_by-cons (λ (y : ℕ). y) x xs)

-- What a loop knows whose lanes have the sums of k entries.
pub record IsSumOf (n k : ℕ) (es lanes : List ℕ) : Type 0 where
  pub many : length lanes ≡ n
  pub total : sum_l lanes + sum_l (drop k es) ≡ sum_l es

-- entries that are still to come have no more than all
pub added_within : (n k m : ℕ) (es lanes entries : List ℕ) → IsSumOf n k es lanes → drop k es ≡ entries ++ drop m es → sum_l lanes + sum_l entries ≤ sum_l es
added_within n k m es lanes entries h here =
    let total = rw here at h.total in
    omega (arith, total, sum_l-append entries (drop m es))

pub added_more : (n k m : ℕ) (es lanes entries : List ℕ) → IsSumOf n k es lanes → length entries ≡ n → drop k es ≡ entries ++ drop m es → IsSumOf n m es (zip2 (λ a b. a + b) lanes entries)
added_more n k m es lanes entries h many here =
    let total = rw here at h.total in
    let same : length lanes ≡ length entries = h.many ∙ sym many in
    record {
      many = length-zip2 (λ (a b : ℕ). a + b) lanes entries same ∙ h.many;
      total = omega (arith, total, sum_l-append entries (drop m es), sum-zip2 lanes entries same);
    }

pub added_all : (n k : ℕ) (es lanes : List ℕ) → IsSumOf n k es lanes → length es ≤ k → 0 + sum_l lanes ≡ sum es
added_all n k es lanes h done =
    let total = rw (drop_all k es done) at h.total in
    let whole : 0 + sum_l lanes ≡ sum_l es = omega (arith, total) in
    whole ∙ sum_l-is es

-- 128 entries of a width
entries_most : (w b : ℕ) (bytes : List ℕ) → w ≤ b → Each1 (λ (a : ℕ). a ≤ 2 ^ b - 1) (unpacked w bytes)
entries_most w b bytes narrow =
    Each1-from_get_or (λ (a : ℕ). a ≤ 2 ^ b - 1) (unpacked w bytes) 0
    (λ k within.
    let small = bits_in-lt 8 bytes (k * w) w in
    let wide = pow_mono {i = w} {j = b} narrow in
    rw (get_or-unpacked w k bytes (omega (arith, length-unpacked w bytes))) (omega arith))

pub sum_most : (w b : ℕ) (bytes : List ℕ) → w ≤ b → sum_l (unpacked w bytes) ≤ (2 ^ b - 1) * 128
sum_most w b bytes narrow = rw (length-unpacked w bytes) at (sum_bound (2 ^ b - 1) (unpacked w bytes) (entries_most w b bytes narrow))

pub sum_none : (w : ℕ) (bytes : List ℕ) → w ≡ 0 → 0 ≡ sum (unpacked w bytes)
sum_none w bytes none =
    let most = sum_most w 0 bytes (omega (arith, none)) in
    let all : 0 ≡ sum_l (unpacked w bytes) = omega (arith, most) in
    all ∙ sum_l-is (unpacked w bytes)
