-- The positions of a document, which are read in pieces.
use Rattle.std.specs.Prelude.{◌≡◌, ℕ, ◌+◌, ◌-◌, ◌<◌, ◌≤◌, Bool, true, false, List, drop, length, take}
use Rattle.std.specs.List.{list_any}
use Rattle.ii_base.specs.Entries.{Entry}
use Rattle.ii_query.specs.declared.position_piece.PositionPiece.{PositionPiece}
use Rattle.ii_query.specs.declared.position_piece.TheConstants.{POSITIONS_READ}
use Rattle.ii_query.specs.Phrase.{PhraseTermState}

-- the number of positions of the document that were passed
abbrev pub num_passed : PositionPiece → ℕ
num_passed piece = piece.read - piece.count + piece.next

-- A piece is the last one that was read of these positions.
pub record IsPieceOf (positions : List ℕ) (piece : PositionPiece) : Type 0 where
  pub size : length piece.positions ≡ POSITIONS_READ
  pub within : piece.read ≤ length positions
  pub whole : piece.count ≤ piece.read
  pub holds : take piece.count piece.positions ≡ take piece.count (drop (piece.read - piece.count) positions)
  pub inside : piece.next ≤ piece.count
  pub last : piece.ended ≡ true → piece.read ≡ length positions
  pub first : piece.count ≡ 0 → piece.ended ≡ false → piece.read ≡ 0

-- From one place to another, only positions below a number were passed: a test that these fail finds the same as before.
abbrev pub PassesBelow : List ℕ → ℕ → ℕ → ℕ → Type 0
PassesBelow positions least old new = (test : ℕ → Bool) → ((p : ℕ) → p < least → test p ≡ false) → list_any test (drop new positions) ≡ list_any test (drop old positions)

-- a term of a phrase, given its cursor and its piece
abbrev pub term_with : {P : Type 0} → ℕ → List Entry → P → PositionPiece → PhraseTermState P
term_with distance rest cursor piece = record { part = record { distance = distance; rest = rest }; cursor = cursor; read = piece.read; ended = piece.ended; passed = num_passed piece }
