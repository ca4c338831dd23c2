-- Computed examples.
use Rattle.std.specs.Prelude.{◌≡◌, ℕ, ◌*◌, [], ◌∷◌, ◌++◌, map, Some, None, replicate, true, false, refl}
use Rattle.std.specs.List.{range_with_len}
use Rattle.ii_codes.specs.Search.{count_below}
use Rattle.ii_codes.specs.Packed.{bits_in, entries_in, unpacked, packed, num_bits}
use Rattle.ii_codes.specs.Blocks.{sorted_block_at, unsorted_block_at, sorted_bytes, unsorted_bytes}

pub docs : sorted_block_at true 0 0 [] ≡ Some (range_with_len 0 128, [])
unfolding sorted_block_at unpacked entries_in bits_in
docs = refl

pub docs_from_1 : sorted_block_at true 0 1 (1 ∷ replicate 15 0 ++ 0xAD ∷ []) ≡ Some (range_with_len 1 128, 0xAD ∷ [])
unfolding sorted_block_at unpacked entries_in bits_in
docs_from_1 = refl

pub evens : sorted_block_at true 0 1 (0xFE ∷ replicate 15 0xFF) ≡ sorted_block_at false 0 2 (0xA8 ∷ replicate 31 0xAA)
unfolding sorted_block_at unpacked entries_in bits_in
evens = refl

pub threes : unsorted_block_at true 2 (replicate 32 0xAA) ≡ Some (replicate 128 3, [])
unfolding unsorted_block_at unpacked entries_in bits_in
threes = refl

pub threes_written : unsorted_bytes true (replicate 128 3) ≡ replicate 32 0xAA
unfolding packed entries_in bits_in num_bits
threes_written = refl

pub docs_from_1_written : sorted_bytes 0 (range_with_len 1 128) ≡ 1 ∷ replicate 15 0
unfolding packed entries_in bits_in num_bits
docs_from_1_written = refl

pub widest : unsorted_block_at false 32 (replicate 512 0xFF) ≡ Some (replicate 128 4294967295, [])
unfolding unsorted_block_at unpacked entries_in bits_in
widest = refl

pub past : unsorted_block_at true 32 (replicate 512 0xFF) ≡ None
unfolding unsorted_block_at unpacked entries_in bits_in
past = refl

pub too_wide : unsorted_block_at false 33 (replicate 528 0) ≡ None
unfolding unsorted_block_at unpacked entries_in bits_in
too_wide = refl

pub one_byte_short : unsorted_block_at false 1 (replicate 15 0) ≡ None
unfolding unsorted_block_at unpacked entries_in bits_in
one_byte_short = refl

pub bits_of_a_packer-9 : bits_in 8 (0x41 ∷ 0x9D ∷ 0x01 ∷ []) 0 9 ≡ 321
unfolding bits_in
bits_of_a_packer-9 = refl

pub bits_of_a_packer-2 : bits_in 8 (0x41 ∷ 0x9D ∷ 0x01 ∷ []) 9 2 ≡ 2
unfolding bits_in
bits_of_a_packer-2 = refl

pub bits_of_a_packer-6 : bits_in 8 (0x41 ∷ 0x9D ∷ 0x01 ∷ []) 11 6 ≡ 51
unfolding bits_in
bits_of_a_packer-6 = refl

pub bits_taken : num_bits 321 ≡ 9
unfolding num_bits
bits_taken = refl

pub bits_taken-none : num_bits 0 ≡ 0
unfolding num_bits
bits_taken-none = refl

pub bits_taken-most : num_bits 18446744073709551615 ≡ 64
unfolding num_bits
bits_taken-most = refl

-- even numbers, and values that come more than once
pub evens_below : count_below 5 (map (λ (k : ℕ). 2 * k) (range_with_len 0 128)) ≡ 3
evens_below = refl

pub repeats_below : count_below 7 (3 ∷ 7 ∷ 7 ∷ 9 ∷ []) ≡ 1
repeats_below = refl
