-- How many blocks are decoded to validate positions.
use Rattle.std.specs.Prelude.{◌≡◌, ℕ, ◌+◌, ◌*◌, ◌/◌, ◌^◌, ◌<◌, ◌≤◌, if◌then◌else◌, List, length, nat_lt, Option, None, Some}
use Rattle.std.specs.List.{sum}
use Rattle.ii_layout.specs.PositionReader.{PositionReaderState, deltas_of}
use Rattle.ii_check.specs.declared.validation.Validation.{Validation}
use Rattle.ii_check.specs.declared.validation.Validation.TheVariants.{Complete, Skipped}

-- how many blocks of documents, of term frequencies and of positions were decoded to validate positions
pub record PositionCounts : Type 0 where
  pub docs : ℕ
  pub freqs : ℕ
  pub positions : ℕ

-- the counts of positions that weren't validated
abbrev pub no_position_blocks : PositionCounts
no_position_blocks = record { docs = 0; freqs = 0; positions = 0 }

-- the most blocks of documents, and as many of term frequencies, that are decoded to validate positions of n documents: some, and all of them if the sum of the deltas exceeds 32 bits
abbrev pub lists_decoded : ℕ → ℕ → List ℕ → ℕ
lists_decoded some n deltas = if nat_lt (sum deltas) (2 ^ 32) then some else some + n / 128 + 1

-- the most blocks of positions: each full one, and all of them again if the sum exceeds 32 bits, the last one twice
abbrev pub positions_decoded : List ℕ → ℕ
positions_decoded deltas = if nat_lt (sum deltas) (2 ^ 32) then length deltas / 128 else 2 * (length deltas / 128) + 2

-- To validate deltas of n documents, at most these blocks were decoded.
pub record ChecksDeltas (some n : ℕ) (deltas : List ℕ) (old new : PositionCounts) : Type 0 where
  pub docs : new.docs ≤ old.docs + lists_decoded some n deltas
  pub freqs : new.freqs ≤ old.freqs + lists_decoded some n deltas
  pub positions : new.positions ≤ old.positions + positions_decoded deltas

-- The same of positions given by their bytes; without bytes nothing was decoded.
abbrev pub ChecksBytes : ℕ → ℕ → Option (List ℕ) → PositionCounts → PositionCounts → Type 0
ChecksBytes some n None old new = new ≡ old
ChecksBytes some n (Some bytes) old new = ChecksDeltas some n (deltas_of bytes) old new

-- The same, with the last block of documents and term frequencies; of known positions nothing was decoded.
abbrev pub ChecksPositions : Validation → ℕ → Option (List ℕ) → PositionCounts → PositionCounts → Type 0
ChecksPositions Complete n positions old new = ChecksBytes 1 n positions old new
ChecksPositions Skipped n positions old new = new ≡ old

-- A reader that read all deltas up to a place, from the first on, decoded each of their blocks once, and before them as many.
pub record SpendsTo (before place : ℕ) (reader : PositionReaderState) : Type 0 where
  pub nothing : place ≡ 0 → reader.decodes ≤ before
  pub decodes : 0 < place → reader.decodes ≤ before + reader.block + 1
  pub block : 0 < place → 128 * reader.block < place
