-- A term during indexing: a field, and the bytes of a value in it.
use Rattle.std.specs.Prelude.{◌≡◌, ℕ, ◌^◌, ◌<◌, List, ◌++◌, drop}
use Rattle.std.specs.Int.{bytes_high_first, from_be_bytes, w32}

pub record IndexingTermState : Type 0 where
  pub field : ℕ
  pub value : List ℕ

-- 4 bytes of a field, big-endian
unfoldable pub field_bytes : ℕ → List ℕ
field_bytes field = bytes_high_first 4 field

-- the bytes of a term
abbrev pub term_bytes : IndexingTermState → List ℕ
term_bytes t = field_bytes t.field ++ t.value

-- the field in the first 4 bytes, big-endian
unfoldable pub field_in : List ℕ → ℕ
field_in bytes = from_be_bytes w32 bytes

-- Bytes of a term: 4 of its field, then those of a value.
pub record AreTermBytes (bytes : List ℕ) : Type 0 where
  pub field : ℕ
  pub small : field < 2 ^ 32
  pub are : bytes ≡ field_bytes field ++ drop 4 bytes
