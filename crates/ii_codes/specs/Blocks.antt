-- Blocks of 128 values, each encoded as an entry.
use Rattle.std.specs.Prelude.{◌≡◌, ℕ, ◌+◌, ◌-◌, ◌*◌, ◌^◌, ◌<◌, Bool, true, false, if◌then◌else◌, ◌==◌, List, [], ◌∷◌, ◌++◌, length, drop, map, slice_index, nat_le, Option, Some}
use Rattle.std.specs.List.Sorted.{IsStrictlyIncreasing}
use Rattle.ii_io.specs.Steps.{◌>>=◌, needs}
use Rattle.ii_codes.specs.Packed.{unpacked, packed, least_width}
use Rattle.ii_codes.specs.Sums.{fit_u32}

-- the minimum difference between neighbors in a sorted block: 1 for strict deltas
abbrev pub gap_of : Bool → ℕ
gap_of true = 1
gap_of false = 0

-- the minimum first value after an offset, 0 for offset 0
abbrev pub least_first : Bool → ℕ → ℕ
least_first strict offset = if offset == 0 then 0 else offset + gap_of strict

-- the values of entries: each is an entry plus the minimum at its place
abbrev pub values_from : ℕ → ℕ → List ℕ → List ℕ
values_from gap least [] = []
values_from gap least (e ∷ es) = (least + e) ∷ values_from gap (least + e + gap) es

-- the entries of values: the difference of each to the minimum at its place
abbrev pub entries_from : ℕ → ℕ → List ℕ → List ℕ
entries_from gap least [] = []
entries_from gap least (v ∷ vs) = (v - least) ∷ entries_from gap (v + gap) vs

-- the values of the entries of a sorted block
abbrev pub sorted_values : Bool → ℕ → List ℕ → List ℕ
sorted_values strict offset es = values_from (gap_of strict) (least_first strict offset) es

-- the entries of the values of a sorted block
abbrev pub sorted_entries : Bool → ℕ → List ℕ → List ℕ
sorted_entries strict offset vs = entries_from (gap_of strict) (least_first strict offset) vs

-- entries, each plus a number
abbrev pub raised : ℕ → List ℕ → List ℕ
raised more es = map (λ e. e + more) es

-- the values of the entries of an unsorted block, each plus one if `minus_one`
abbrev pub unsorted_values : Bool → List ℕ → List ℕ
unsorted_values true es = map (λ e. e + 1) es
unsorted_values false es = es

-- the entries of the values of an unsorted block, each minus one if `minus_one`
abbrev pub unsorted_entries : Bool → List ℕ → List ℕ
unsorted_entries true vs = map (λ v. v - 1) vs
unsorted_entries false vs = vs

-- the values of the block of w bits at the start of the bytes, if it is valid, and the bytes after it
abbrev pub block_at : (List ℕ → List ℕ) → ℕ → List ℕ → Option (List ℕ × List ℕ)
block_at values w bytes = do
  _ ← needs (nat_le w 32)
  _ ← needs (nat_le (16 * w) (length bytes))
  _ ← needs (fit_u32 (values (unpacked w bytes)))
  Some (values (unpacked w bytes), drop (16 * w) bytes)

-- a sorted block at the start of the bytes
unfoldable pub sorted_block_at : Bool → ℕ → ℕ → List ℕ → Option (List ℕ × List ℕ)
sorted_block_at strict offset w bytes = block_at (sorted_values strict offset) w bytes

-- an unsorted block at the start of the bytes
unfoldable pub unsorted_block_at : Bool → ℕ → List ℕ → Option (List ℕ × List ℕ)
unsorted_block_at minus_one w bytes = block_at (unsorted_values minus_one) w bytes

-- the width of a written sorted block: the least width of its strict deltas
abbrev pub sorted_width : ℕ → List ℕ → ℕ
sorted_width offset vs = least_width (sorted_entries true offset vs)

-- the bytes of a written sorted block
abbrev pub sorted_bytes : ℕ → List ℕ → List ℕ
sorted_bytes offset vs = packed (sorted_width offset vs) (sorted_entries true offset vs)

-- the width of a written unsorted block
abbrev pub unsorted_width : Bool → List ℕ → ℕ
unsorted_width minus_one vs = least_width (unsorted_entries minus_one vs)

-- the bytes of a written unsorted block
abbrev pub unsorted_bytes : Bool → List ℕ → List ℕ
unsorted_bytes minus_one vs = packed (unsorted_width minus_one vs) (unsorted_entries minus_one vs)

-- 128 values of 32 bits
pub record IsBlock (vs : List ℕ) : Type 0 where
  pub many : length vs ≡ 128
  pub fit : (k : ℕ) → k < 128 → slice_index vs k < 2 ^ 32

-- Values that ascend strictly, after an offset that is 0 or less than the first.
pub record AscendsAfter (offset : ℕ) (vs : List ℕ) : Type 0 where
  pub ascending : IsStrictlyIncreasing vs
  pub after : 0 < offset → offset < slice_index vs 0

-- A written sorted block is read back from its offset and width, whatever follows.
abbrev pub ReadsSortedBlocks : Type 0
ReadsSortedBlocks =
    (offset : ℕ) (vs rest : List ℕ) → IsBlock vs → AscendsAfter offset vs
    → sorted_block_at true offset (sorted_width offset vs) (sorted_bytes offset vs ++ rest) ≡ Some (vs, rest)

-- A written unsorted block is read back from its width, whatever follows; with `minus_one` no value may be 0.
abbrev pub ReadsUnsortedBlocks : Type 0
ReadsUnsortedBlocks =
    ((vs rest : List ℕ) → IsBlock vs → unsorted_block_at false (unsorted_width false vs) (unsorted_bytes false vs ++ rest) ≡ Some (vs, rest))
    × ((vs rest : List ℕ) → IsBlock vs → ((k : ℕ) → k < 128 → 0 < slice_index vs k) → unsorted_block_at true (unsorted_width true vs) (unsorted_bytes true vs ++ rest) ≡ Some (vs, rest))
