-- Lists of bits, the lowest first.
use Rattle.std.specs.Prelude.{◌≡◌, ℕ, zero, suc, ◌+◌, ◌*◌, ◌/◌, ◌%◌, ◌^◌, ◌<◌, List, [], ◌∷◌, ◌++◌, length, drop}
use Rattle.ii_codes.specs.Packed.{bits_in, entries_in}

-- the w lowest bits of a number
abbrev pub low_bits : ℕ → ℕ → List ℕ
low_bits zero n = []
low_bits (suc w) n = n % 2 ∷ low_bits w (n / 2)

-- the complete bytes of bits
unfoldable pub whole_bytes : List ℕ → List ℕ
whole_bytes bits = entries_in 1 8 (length bits / 8) bits

-- the bits after the complete bytes
abbrev pub bits_left : List ℕ → List ℕ
bits_left bits = drop (length bits / 8 * 8) bits

-- the bytes of bits, padded with zeros
unfoldable pub bits_bytes : List ℕ → List ℕ
bits_bytes bits = entries_in 1 8 ((length bits + 7) / 8) bits

-- Bits written piece by piece give the same bytes as all bits at once.
abbrev pub WritesOneRow : Type 0
WritesOneRow =
    (before more : List ℕ)
    → (whole_bytes before ++ whole_bytes (bits_left before ++ more) ≡ whole_bytes (before ++ more))
    × (bits_left (bits_left before ++ more) ≡ bits_left (before ++ more))
    × (whole_bytes before ++ bits_bytes (bits_left before) ≡ bits_bytes before)

-- A number is read back from its place, whatever is before and after it.
abbrev pub ReadsFromItsPlace : Type 0
ReadsFromItsPlace =
    (before after rest : List ℕ) (w n : ℕ) → n < 2 ^ w
    → bits_in 8 (bits_bytes (before ++ low_bits w n ++ after) ++ rest) (length before) w ≡ n
