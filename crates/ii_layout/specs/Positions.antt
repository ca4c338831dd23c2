-- A term's positions: distances from the previous one in the document, in packed blocks and then as vints.
use Rattle.std.specs.Prelude.{◌≡◌, ℕ, ◌*◌, ◌/◌, ◌^◌, ◌<◌, false, List, [], ◌∷◌, ◌++◌, take, drop, length, slice_index, map, nat_lt, nat_le, ◌==◌, Option, Some}
use Rattle.std.specs.List.{concat, flat_map, range_with_len, sum, list_all, AllByRecursion}
use Rattle.ii_io.specs.Steps.{◌>>=◌, needs}
use Rattle.ii_io.specs.Vints.{u64_at, vint_u64}
use Rattle.ii_codes.specs.Blocks.{unsorted_block_at, unsorted_width, unsorted_bytes}
use Rattle.ii_codes.specs.Sums.{running_sums, fit_u32}
use Rattle.ii_codes.specs.UnsortedVints.{u32s_until_end, unsorted_vints}
use Rattle.ii_layout.specs.Each.{each}
use Rattle.ii_layout.specs.Written.{block_of}

-- The widths of the full blocks, and the bytes after the widths.
pub record PositionList : Type 0 where
  pub widths : List ℕ
  pub body : List ℕ

-- the widths that position bytes hold, after their number, and the bytes after them
abbrev pub position_list : List ℕ → Option PositionList
position_list bytes = do
  blocks ← u64_at bytes
  _ ← needs (nat_le blocks.0 (length blocks.1))
  Some (record { widths = take blocks.0 blocks.1; body = drop blocks.0 blocks.1 })

-- the place of block i in the body: the size of all blocks before it
abbrev pub place_by_widths : List ℕ → ℕ → ℕ
place_by_widths widths i = 16 * sum (take i widths)

-- the deltas of block i
abbrev pub block_deltas : PositionList → ℕ → Option (List ℕ)
block_deltas list i = do
  found ← unsorted_block_at false (slice_index list.widths i) (drop (place_by_widths list.widths i) list.body)
  Some found.0

-- the deltas after the full blocks, fewer than 128
abbrev pub rest_deltas : PositionList → Option (List ℕ)
rest_deltas list = do
  rest ← u32s_until_end 128 (drop (place_by_widths list.widths (length list.widths)) list.body)
  _ ← needs (nat_lt (length rest) 128)
  Some rest

-- all deltas that bytes hold, of all documents one after the other
abbrev pub position_deltas : List ℕ → Option (List ℕ)
position_deltas bytes = do
  list ← position_list bytes
  blocks ← each (block_deltas list) (length list.widths)
  rest ← rest_deltas list
  Some (concat blocks ++ rest)

-- the positions of each document by its term frequency: the sums of its deltas, from 0
abbrev pub positions_of : List ℕ → List ℕ → List (List ℕ)
positions_of [] deltas = []
positions_of (n ∷ ns) deltas = running_sums 0 (take n deltas) ∷ positions_of ns (drop n deltas)

-- the deltas of a term with these frequencies, if their number matches and each position has 32 bits
abbrev pub deltas_at : List ℕ → List ℕ → Option (List ℕ)
deltas_at freqs bytes = do
  deltas ← position_deltas bytes
  _ ← needs (length deltas == sum freqs)
  _ ← needs (list_all fit_u32 (positions_of freqs deltas))
  Some deltas

-- the written form of deltas: number of full blocks, least widths, blocks, other deltas as shortest vints
abbrev pub written_positions : List ℕ → List ℕ
written_positions deltas =
    let blocks = length deltas / 128 in
    vint_u64 blocks
    ++ map (λ i. unsorted_width false (block_of deltas i)) (range_with_len 0 blocks)
    ++ flat_map (λ i. unsorted_bytes false (block_of deltas i)) (range_with_len 0 blocks)
    ++ unsorted_vints (drop (128 * blocks) deltas)

-- Written deltas read back as they are.
abbrev pub ReadsPositionsBack : Type 0
ReadsPositionsBack =
    (deltas : List ℕ) → AllByRecursion (λ v. v < 2 ^ 32) deltas → length deltas / 128 < 2 ^ 64
    → position_deltas (written_positions deltas) ≡ Some deltas
