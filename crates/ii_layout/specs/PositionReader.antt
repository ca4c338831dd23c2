-- A reader of a term's positions: the deltas in its bytes, and the block that it keeps.
use Rattle.std.specs.Prelude.{◌≡◌, ℕ, zero, suc, ◌+◌, ◌-◌, ◌*◌, ◌<◌, ◌≤◌, Bool, if◌then◌else◌, List, [], length, drop, slice_index, nat_le, nat_lt, ◌/◌, Option, unwrap_or, Some}
use Rattle.std.specs.List.{slice_range}
use Rattle.ii_io.specs.Steps.{◌>>=◌, needs}
use Rattle.ii_codes.specs.UnsortedVints.{u32s_until_end}
use Rattle.ii_layout.specs.Positions.{PositionList, position_list, place_by_widths, block_deltas, rest_deltas, position_deltas}
use Rattle.ii_layout.specs.Written.{block_of}

-- The deltas in the bytes, the block that is kept, and the number of decodes.
pub record PositionReaderState : Type 0 where
  pub deltas : List ℕ
  pub block : ℕ
  pub decodes : ℕ

-- The same state, of the reader's blocks.
pub record PositionBlocksState : Type 0 where
  pub deltas : List ℕ
  pub block : ℕ
  pub decodes : ℕ

-- A range of deltas lies in one block.
pub record LieInBlock (block offset count : ℕ) : Type 0 where
  pub from : 128 * block ≤ offset
  pub to : offset + count ≤ 128 * block + 128

-- A read decodes each block of its deltas at most once. From the kept block on, it decodes only later ones.
pub record DecodesEachOnce (offset count : ℕ) (old new : PositionReaderState) : Type 0 where
  pub once : 0 < count → new.decodes + offset / 128 ≤ old.decodes + new.block + 1
  pub forward : old.block ≤ offset / 128 → new.decodes + old.block ≤ old.decodes + new.block

-- the block that is kept after a read: that of the last delta read
abbrev pub block_kept : ℕ → ℕ → ℕ → ℕ
block_kept before offset zero = before
block_kept before offset (suc n) = (offset + n) / 128

-- the deltas that bytes hold, or none if they hold no such list
unfoldable pub deltas_of : List ℕ → List ℕ
deltas_of bytes = unwrap_or (position_deltas bytes) []

-- the widths between two places, and the bytes after them
abbrev pub list_at : List ℕ → ℕ → ℕ → PositionList
list_at bytes widths body = record { widths = slice_range bytes widths body; body = drop body bytes }

-- Bytes hold deltas, with their widths and blocks at these places.
pub record ArePositions (bytes : List ℕ) (widths body : ℕ) : Type 0 where
  pub order : widths ≤ body
  pub within : body ≤ length bytes
  pub list : position_list bytes ≡ Some (list_at bytes widths body)
  pub deltas : position_deltas bytes ≡ Some (deltas_of bytes)

-- whether a width is valid for a block
abbrev pub is_width : ℕ → Bool
is_width width = nat_le width 32

-- Anchor k is the place of block k * stride, up to the last block.
abbrev pub AreAnchors : List ℕ → ℕ → ℕ → List ℕ → Type 0
AreAnchors widths stride last anchors = (k : ℕ) → k * stride ≤ last → slice_index anchors k ≡ place_by_widths widths (k * stride)

-- the deltas in bytes up to their end, fewer than 128
abbrev pub rest_at : List ℕ → Option (List ℕ)
rest_at bytes = do
  rest ← u32s_until_end 128 bytes
  _ ← needs (nat_lt (length rest) 128)
  Some rest

-- the deltas of a block, or those after the full blocks
abbrev pub deltas_at_block : PositionList → ℕ → Option (List ℕ)
deltas_at_block list block = if nat_lt block (length list.widths) then block_deltas list block else rest_deltas list

-- The state of a reader: where some blocks begin, one decoded block, and the length of the last one.
pub record KeepsBlock (bytes : List ℕ) (widths body stride : ℕ) (anchors : List ℕ) (block place : ℕ) (held : List ℕ) (rest : ℕ) : Type 0 where
  pub there : ArePositions bytes widths body
  pub many : length anchors ≡ 64
  pub stride_is : body - widths < 64 * stride
  pub anchors_are : AreAnchors (list_at bytes widths body).widths stride (body - widths) anchors
  pub inside : block ≤ body - widths
  pub place_is : place ≡ place_by_widths (list_at bytes widths body).widths block
  pub held_is : held ≡ block_of (deltas_of bytes) block
  pub len : length (deltas_of bytes) ≡ 128 * (body - widths) + rest
  pub few : rest < 128
  pub room : place_by_widths (list_at bytes widths body).widths (body - widths) ≤ length bytes
