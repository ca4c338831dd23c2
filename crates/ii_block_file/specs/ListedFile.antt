-- Files that `meta` lists, which are open to read ranges of them.
use Rattle.std.specs.Prelude.{◌≡◌, ℕ, List, [], Option, None, Some, Result, Ok}
use Rattle.ii_store.specs.declared.faults.IndexFault.{IndexFault}
use Rattle.ii_store.specs.Index.{◌>>=◌}
use Rattle.ii_store.specs.Segments.{ListedFile, listed_bytes}
use Rattle.ii_block_file.specs.BlockTable.{BlockTableState, block_table_of}
use Rattle.ii_block_file.specs.declared.block_file.BlockFile.{BlockFile}

-- bytes, or none if they aren't known
abbrev pub bytes_or_none : Option (List ℕ) → List ℕ
bytes_or_none None = []
bytes_or_none (Some bytes) = bytes

-- The bytes of an open file are known, and its table is theirs.
pub record HasKnownBytes {R : Type 0} (bytes : R → Option (List ℕ)) (b : BlockFile R) : Type 0 where
  pub file : List ℕ
  pub known : bytes b.source ≡ Some file
  pub table : b.table ≡ block_table_of file

-- the table of a listed file, or the fault of the file
abbrev pub table_of_listed : ListedFile → Option (List ℕ) → Result BlockTableState IndexFault
table_of_listed l found = listed_bytes l found >>= λ bytes. Ok (block_table_of bytes)
