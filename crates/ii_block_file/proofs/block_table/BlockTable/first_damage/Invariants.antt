use Rattle.std.proofs.Common.{◌≡◌, ℕ, ◌+◌, ◌<◌, true}
use Rattle.ii_block_file.specs.BlockTable.{file_block, lists_checksum}
use Rattle.ii_block_file.proofs.block_table.BlockTable.first_damage.Given as goal

-- the blocks before this place have the checksums that the table lists
abbrev pub invariant-loop-place : goal.invariant-loop-place
invariant-loop-place l = (k : ℕ) → k < l.place → lists_checksum l.fn.self (l.fn.first + k) (file_block k l.fn.bytes) ≡ true
