-- Lists of entries of w bits each, the lowest bit first. Bytes are a list of 8-bit entries.
use Rattle.std.specs.Prelude.{◌≡◌, ◌↔◌, ℕ, zero, suc, ◌+◌, ◌*◌, ◌/◌, ◌%◌, ◌^◌, ◌<◌, ◌≤◌, max, List, [], ◌∷◌, length, take, map, slice_index, nat_le}
use Rattle.std.specs.Int.{bit_at}
use Rattle.std.specs.List.{count_by, range_with_len}

-- bit j of a list of w-bit entries
abbrev pub bit_in : ℕ → List ℕ → ℕ → ℕ
bit_in w row j = bit_at (slice_index row (j / w)) (j % w)

-- the number in n bits of a list from a place on
unfoldable pub bits_in : ℕ → List ℕ → ℕ → ℕ → ℕ
bits_in w row place zero = 0
bits_in w row place (suc n) = bit_in w row place + 2 * bits_in w row (place + 1) n

-- the first n entries of v bits in the bits of a list
unfoldable pub entries_in : ℕ → ℕ → ℕ → List ℕ → List ℕ
entries_in w v n row = map (λ k. bits_in w row (k * v) v) (range_with_len 0 n)

-- the 128 entries of w bits at the start of the bytes
unfoldable pub unpacked : ℕ → List ℕ → List ℕ
unpacked w bytes = entries_in 8 w 128 bytes

-- the 16 * w bytes of 128 entries of w bits
unfoldable pub packed : ℕ → List ℕ → List ℕ
packed w entries = entries_in w 8 (16 * w) entries

-- Bit i of entry k is bit k * w + i of the bytes.
pub record IsPacked (w : ℕ) (bytes entries : List ℕ) : Type 0 where
  pub whole : length bytes ≡ 16 * w
  pub many : length entries ≡ 128
  pub fits : (k : ℕ) → k < 128 → slice_index entries k < 2 ^ w
  pub bits : (k i : ℕ) → k < 128 → i < w → bit_at (slice_index entries k) i ≡ bit_in 8 bytes (k * w + i)

-- The first k entries are packed: complete 32-bit words are in the bytes, and the bits after them in a word.
pub record IsPackedUpTo (w k word : ℕ) (entries bytes : List ℕ) : Type 0 where
  pub whole : take (4 * (k * w / 32)) bytes ≡ entries_in w 8 (4 * (k * w / 32)) entries
  pub rest : word ≡ bits_in w entries (k * w / 32 * 32) (k * w % 32)

-- the number of bits of a number less than 2 ^ 64: how many powers of two are at most that number
unfoldable pub num_bits : ℕ → ℕ
num_bits n = count_by (λ k. nat_le (2 ^ k) n) (range_with_len 0 64)

-- the least width that holds each of the entries
abbrev pub least_width : List ℕ → ℕ
least_width [] = 0
least_width (e ∷ es) = max (num_bits e) (least_width es)

-- Bytes hold exactly the entries that are unpacked from them.
abbrev pub HoldsWhatIsUnpacked : Type 0
HoldsWhatIsUnpacked =
    (w : ℕ) (bytes entries : List ℕ) → IsPacked w bytes entries ↔ ((length bytes ≡ 16 * w) × (entries ≡ unpacked w bytes))

-- The bytes of packed entries hold these entries, if they fit.
abbrev pub HoldsWhatIsPacked : Type 0
HoldsWhatIsPacked =
    (w : ℕ) (entries : List ℕ) → length entries ≡ 128 → ((k : ℕ) → k < 128 → slice_index entries k < 2 ^ w)
    → IsPacked w (packed w entries) entries

-- A width holds 64-bit entries if and only if it is at least the least one.
abbrev pub HoldsFromLeastWidth : Type 0
HoldsFromLeastWidth =
    (w : ℕ) (entries : List ℕ) → ((k : ℕ) → k < length entries → slice_index entries k < 2 ^ 64)
    → ((k : ℕ) → k < length entries → slice_index entries k < 2 ^ w) ↔ (least_width entries ≤ w)
