use Rattle.std.proofs.Common.{◌≡◌, ◌≤◌, ◌*◌, ℕ, List, Some, length, min, take}
use Rattle.ii_store.specs.FileDigest.{blocks, checksum_bytes}
use Rattle.ii_block_file.specs.BlockTable.{num_file_blocks}
use Rattle.ii_block_file.proofs.block_table.BlockTable.read.Given as goal

-- the checksums are those of the bytes before this place
abbrev pub invariant-loop-place : goal.invariant-loop-place
invariant-loop-place g l = record {
  count : length l.bytes.items ≡ 8 * num_file_blocks (min (l.place * 262144) l.fn.len);
  within : (bytes : List ℕ) → g.R.ReadAt.bytes l.fn.file ≡ Some bytes → min (l.place * 262144) l.fn.len ≤ length bytes;
  exact : (bytes : List ℕ) → g.R.ReadAt.bytes l.fn.file ≡ Some bytes → l.bytes.items ≡ checksum_bytes (blocks 4096 (take (min (l.place * 262144) l.fn.len) bytes));
}
