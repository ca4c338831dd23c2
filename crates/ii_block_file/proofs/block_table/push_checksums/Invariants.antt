use Rattle.std.proofs.Common.{◌≡◌, ◌++◌, map}
use Rattle.std.specs.List.{range_with_len}
use Rattle.ii_store.specs.FileDigest.{checksum_bytes}
use Rattle.ii_block_file.specs.BlockTable.{file_block}
use Rattle.ii_block_file.proofs.block_table.push_checksums.Given as goal

-- the checksums of the blocks before this place were appended
abbrev pub invariant-loop-place : goal.invariant-loop-place
invariant-loop-place l = l.checksums.items ≡ l.fn.checksums.items ++ checksum_bytes (map (λ k. file_block k l.fn.part) (range_with_len 0 l.place))
