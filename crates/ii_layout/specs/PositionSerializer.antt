-- A serializer of positions: the deltas of the open term, and what is kept of them.
use Rattle.std.specs.Prelude.{◌≡◌, ℕ, ◌/◌, ◌%◌, ◌^◌, ◌<◌, false, Bool, List, [], length, map, unwrap_or}
use Rattle.std.specs.List.{concat, flat_map, range_with_len, AllByRecursion}
use Rattle.std.specs.Option.{option_map}
use Rattle.ii_io.specs.CountingWriter.{CountingWriterState}
use Rattle.ii_codes.specs.Blocks.{unsorted_width, unsorted_bytes}
use Rattle.ii_layout.specs.Each.{each}
use Rattle.ii_layout.specs.Positions.{block_deltas}
use Rattle.ii_layout.specs.Written.{block_of}

-- The writer of the positions, the deltas of the open term so far, and whether an earlier call failed.
pub record PositionSerializerState : Type 0 where
  pub writer : CountingWriterState
  pub deltas : List ℕ
  pub closed : Bool

-- the widths of the full blocks of deltas
abbrev pub widths_of : List ℕ → List ℕ
widths_of deltas = map (λ i. unsorted_width false (block_of deltas i)) (range_with_len 0 (length deltas / 128))

-- the bytes of the full blocks of deltas
abbrev pub blocks_of : List ℕ → List ℕ
blocks_of deltas = flat_map (λ i. unsorted_bytes false (block_of deltas i)) (range_with_len 0 (length deltas / 128))

-- the deltas that blocks of these widths hold
unfoldable pub deltas_in : List ℕ → List ℕ → List ℕ
deltas_in widths body = unwrap_or (option_map concat (each (block_deltas (record { widths = widths; body = body })) (length widths))) []

-- Full blocks of 32-bit deltas, kept as these widths and bytes.
pub record PacksDeltas (deltas widths body : List ℕ) : Type 0 where
  pub whole : length deltas % 128 ≡ 0
  pub fit : AllByRecursion (λ v. v < 2 ^ 32) deltas
  pub widths_are : widths ≡ widths_of deltas
  pub body_is : body ≡ blocks_of deltas
