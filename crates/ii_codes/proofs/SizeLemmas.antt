-- The greatest number of bytes of encoded values.
use Rattle.std.proofs.Common.{ℕ, zero, suc, ◌+◌, ◌*◌, ◌/◌, ◌%◌, ◌≤◌, Bool, true, false, List, [], ◌∷◌, length, nat_le, nat_lt, ap, arith, length-append}
use Rattle.std.specs.Prelude.{if◌then◌else◌, ◌^◌}
use Rattle.std.specs.List.{flat_map, range_with_len}
use Rattle.std.proofs.lemmas.List.Concat.{flat_map-cons}
use Rattle.std.proofs.lemmas.List.FromFn.{length-range_with_len}
use Rattle.std.proofs.lemmas.List.Sums.{count_by-le-length}
use Rattle.std.proofs.Math.Nat.{suc-mul}
use Rattle.ii_io.specs.Vints.{fewest_groups, vint_u32, vint_u64}
use Rattle.ii_codes.specs.Blocks.{sorted_bytes, sorted_entries, sorted_width, unsorted_bytes, unsorted_entries, unsorted_width}
use Rattle.ii_codes.specs.Packed.{least_width, num_bits}
use Rattle.ii_codes.specs.SortedVints.{sorted_vints}
use Rattle.ii_codes.specs.Sums.{differences}
use Rattle.ii_codes.specs.UnsortedVints.{unsorted_vints}
use Rattle.ii_codes.proofs.PackedLaws.{length-packed}
use Rattle.ii_codes.proofs.SortedVintLemmas.{length-differences}

-- pieces of at most a size each
pub length-flat_map-le : {X A : Type 0} (f : X → List A) (size : ℕ) → ((x : X) → length (f x) ≤ size) → (xs : List X) → length (flat_map f xs) ≤ length xs * size
length-flat_map-le f size each [] = omega arith
length-flat_map-le f size each (x ∷ xs) =
    omega (arith, ap length (flat_map-cons f x xs), length-append (f x) (flat_map f xs), each x, length-flat_map-le f size each xs, suc-mul (length xs) size)

length-fewest_groups-le : (more n : ℕ) → length (fewest_groups more n) ≤ more + 1
length-fewest_groups-le zero n = omega arith
length-fewest_groups-le (suc more) n = by_case (nat_lt n 128) (length-fewest_groups-le more (n / 128))
  where
    by_case : (low : Bool) → length (fewest_groups more (n / 128)) ≤ more + 1 → length (if low then (n + 128) ∷ [] else n % 128 ∷ fewest_groups more (n / 128)) ≤ suc more + 1
    by_case true rest = omega arith
    by_case false rest = omega (arith, rest)

pub length-vint_u32-le : (n : ℕ) → length (vint_u32 n) ≤ 5
unfolding vint_u32
length-vint_u32-le n = length-fewest_groups-le 4 n

pub length-vint_u64-le : (n : ℕ) → length (vint_u64 n) ≤ 10
unfolding vint_u64
length-vint_u64-le n = length-fewest_groups-le 9 n

pub length-unsorted_vints-le : (vs : List ℕ) → length (unsorted_vints vs) ≤ length vs * 5
length-unsorted_vints-le vs = length-flat_map-le vint_u32 5 length-vint_u32-le vs

pub length-sorted_vints-le : (offset : ℕ) (vs : List ℕ) → length (sorted_vints offset vs) ≤ length vs * 5
length-sorted_vints-le offset vs = omega (arith, length-flat_map-le vint_u32 5 length-vint_u32-le (differences offset vs), length-differences offset vs)

-- no number has more than 64 bits
pub num_bits-le : (n : ℕ) → num_bits n ≤ 64
unfolding num_bits
num_bits-le n = omega (arith, count_by-le-length (λ k. nat_le (2 ^ k) n) (range_with_len 0 64), length-range_with_len 0 64)

least_width-le : (es : List ℕ) → least_width es ≤ 64
least_width-le [] = omega arith
least_width-le (e ∷ es) = omega (arith, num_bits-le e, least_width-le es)

pub length-sorted_bytes-le : (offset : ℕ) (vs : List ℕ) → length (sorted_bytes offset vs) ≤ 1024
length-sorted_bytes-le offset vs = omega (arith, length-packed (sorted_width offset vs) (sorted_entries true offset vs), least_width-le (sorted_entries true offset vs))

pub length-unsorted_bytes-le : (minus_one : Bool) (vs : List ℕ) → length (unsorted_bytes minus_one vs) ≤ 1024
length-unsorted_bytes-le minus_one vs = omega (arith, length-packed (unsorted_width minus_one vs) (unsorted_entries minus_one vs), least_width-le (unsorted_entries minus_one vs))
