-- The number of bits and bytes in a list of bits.
use Rattle.std.proofs.Common.{◌≡◌, ℕ, zero, suc, ◌+◌, ◌*◌, ◌/◌, ◌%◌, List, length, refl, ap, arith, length-drop}
use Rattle.std.proofs.lemmas.List.FromFn.{length-map-range_with_len}
use Rattle.ii_codes.specs.Packed.{bits_in, entries_in}
use Rattle.ii_codes.specs.Bits.{low_bits, bits_left, bits_bytes}

pub length-low_bits : (w n : ℕ) → length (low_bits w n) ≡ w
length-low_bits zero n = refl
length-low_bits (suc w) n = ap suc (length-low_bits w (n / 2))

pub length-bits_left : (row : List ℕ) → length (bits_left row) ≡ length row % 8
length-bits_left row = omega (arith, length-drop (length row / 8 * 8) row)

pub length-bits_bytes : (row : List ℕ) → length (bits_bytes row) ≡ (length row + 7) / 8
unfolding bits_bytes entries_in
length-bits_bytes row = length-map-range_with_len (λ k. bits_in 1 row (k * 8) 8) 0 ((length row + 7) / 8)
