-- The blocks of a file that are kept in memory.
use Rattle.std.specs.Prelude.{◌≡◌, ℕ, List, Option, Some, drop, length, take}
use Rattle.std.specs.List.{All}
use Rattle.ii_file_slice.specs.declared.block_cache.CachedBlock.{CachedBlock}

-- A block has the bytes of a file from its start on.
abbrev pub IsBlockOf : List ℕ → CachedBlock → Type 0
IsBlockOf bytes block = block.bytes ≡ take (length block.bytes) (drop block.start bytes)

-- All are blocks of a file, where the file's bytes are known.
abbrev pub AreBlocksOf : Option (List ℕ) → List CachedBlock → Type 0
AreBlocksOf known blocks = (bytes : List ℕ) → known ≡ Some bytes → All (IsBlockOf bytes) blocks
