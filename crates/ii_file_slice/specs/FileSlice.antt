-- What is known of the bytes of a file or a range of one.
use Rattle.std.specs.Prelude.{◌≡◌, ℕ, ◌+◌, ◌==◌, List, Option, IfSome, None, Some, drop, if◌then◌else◌, length, nat_le, take}
use Rattle.ii_block_file.specs.BlockTable.{BlockTableState, block_table_of}

-- the bytes of a range of a file, if the file's are known and it ends within them
abbrev pub slice_if : ℕ → ℕ → Option (List ℕ) → Option (List ℕ)
slice_if start len None = None
slice_if start len (Some bytes) = if nat_le (start + len) (length bytes) then Some (take len (drop start bytes)) else None

-- the bytes of a file, if they are known and there are as many as its table says
abbrev pub bytes_if : BlockTableState → Option (List ℕ) → Option (List ℕ)
bytes_if table None = None
bytes_if table (Some bytes) = if length bytes == table.len then Some bytes else None

-- A table is that of a file, where the file's bytes are known.
abbrev pub IsTableOf : BlockTableState → Option (List ℕ) → Type 0
IsTableOf table known = IfSome known (λ (bytes : List ℕ). table ≡ block_table_of bytes)
