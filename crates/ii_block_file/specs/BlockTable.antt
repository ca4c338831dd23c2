-- The checksums of a file's blocks, and ranges of files that were compared with them.
use Rattle.std.specs.Prelude.{◌≡◌, ℕ, ◌+◌, ◌-◌, ◌*◌, ◌/◌, ◌%◌, ◌<◌, ◌==◌, ◌&&◌, ⊤, Bool, true, false, List, Option, IfSome, bytes_eq, drop, length, take}
use Rattle.std.specs.Int.{w64, to_le_bytes}
use Rattle.std.specs.declared.io.ErrorKind.TheVariants.{UnexpectedEof}
use Rattle.sha2.specs.Sha256.{sha256}
use Rattle.ii_store.specs.FileDigest.{block_checksum, blocks, checksum_bytes}
use Rattle.ii_store.specs.declared.file_digest.FileDigest.{FileDigest}
use Rattle.ii_store.specs.declared.file_digest.FileDigest.TheVariants as digests
use Rattle.ii_block_file.specs.declared.faults.ReadFault.{ReadFault}
use Rattle.ii_block_file.specs.declared.faults.ReadFault.TheVariants as faults

-- the length of a file, and the checksums of its blocks, eight bytes each
pub record BlockTableState : Type 0 where
  pub len : ℕ
  pub bytes : List ℕ

-- the table of a file
abbrev pub block_table_of : List ℕ → BlockTableState
block_table_of file = record { len = length file; bytes = checksum_bytes (blocks 4096 file) }

-- the number of blocks that hold so many bytes
abbrev pub num_file_blocks : ℕ → ℕ
num_file_blocks len = (len + 4096 - 1) / 4096

-- whether a digest is that of the blocks of a file with this table
abbrev pub is_digest_of : FileDigest → List ℕ → Bool
is_digest_of (digests.Sha256 digest) table = false
is_digest_of (digests.LongBlocks digest) table = false
is_digest_of (digests.Blocks digest) table = bytes_eq digest (sha256 table)

-- whether bytes are the table of a file with this length and this digest
abbrev pub is_table : ℕ → FileDigest → List ℕ → Bool
is_table len digest bytes = (length bytes == 8 * num_file_blocks len) && is_digest_of digest bytes

-- a block of a file
abbrev pub file_block : ℕ → List ℕ → List ℕ
file_block k file = take 4096 (drop (k * 4096) file)

-- whether a block has the checksum that a table lists for the block of this number
abbrev pub lists_checksum : BlockTableState → ℕ → List ℕ → Bool
lists_checksum t k block = bytes_eq (take 8 (drop (8 * k) t.bytes)) (to_le_bytes w64 (block_checksum block))

-- Bytes are whole blocks from this one on, each with the checksum that a table lists for it.
abbrev pub AreListed : BlockTableState → ℕ → List ℕ → Type 0
AreListed t first bytes = (k : ℕ) → k < num_file_blocks (length bytes) → lists_checksum t (first + k) (file_block k bytes) ≡ true

-- Bytes are those of a range, cut out of blocks that have the checksums that a table lists.
pub record IsRange (t : BlockTableState) (from len : ℕ) (bytes : List ℕ) : Type 0 where
  pub blocks : List ℕ
  pub listed : AreListed t (from / 4096) blocks
  pub cut : bytes ≡ take len (drop (from % 4096) blocks)
  pub long : length bytes ≡ len

-- Why a range can't be read of a file with these bytes, if they are known: it passes the length that the table says; the file is shorter; if it has that length, a block has another checksum.
abbrev pub IsReadFault : BlockTableState → Option (List ℕ) → ℕ → ℕ → ReadFault → Type 0
IsReadFault t file from len faults.OutOfMemory = ⊤
IsReadFault t file from len faults.Range = t.len < from + len
IsReadFault t file from len (faults.Refused kind) = IfSome file (λ (bytes : List ℕ). length bytes < t.len)
IsReadFault t file from len (faults.Damaged k) = (k < num_file_blocks t.len) × IfSome file (λ (bytes : List ℕ). length bytes ≡ t.len → lists_checksum t k (file_block k bytes) ≡ false)

-- Why the table of so many bytes of a file can't be read. If the file's bytes are known, and there are enough, only an allocation fails.
abbrev pub IsTableFault : Option (List ℕ) → ℕ → ReadFault → Type 0
IsTableFault file len faults.OutOfMemory = ⊤
IsTableFault file len faults.Range = ⊥
IsTableFault file len (faults.Refused kind) = IfSome file (λ (bytes : List ℕ). (length bytes < len) × (kind ≡ UnexpectedEof))
IsTableFault file len (faults.Damaged k) = ⊥
