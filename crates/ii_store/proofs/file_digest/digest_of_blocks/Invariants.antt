use Rattle.std.proofs.Common.{◌≡◌, ℕ, List, ◌++◌}
use Rattle.std.specs.Slice.Iter.{chunks_rest, chunks_size}
use Rattle.sha2.specs.Hashers.{Holds256}
use Rattle.ii_store.specs.FileDigest.{blocks, checksum_bytes}
use Rattle.ii_store.proofs.file_digest.digest_of_blocks.Given as goal

-- the hasher holds checksums, and those of the remaining blocks complete those of the file
abbrev pub invariant-loop-block : goal.invariant-loop-block
invariant-loop-block l =
    goal.iterator-loop-block.can_next l.block-iterator
    × goal.iterator-loop-block.is_finite l.block-iterator
    × (chunks_size l.block-iterator ≡ l.fn.block_len)
    × ((done : List ℕ) × Holds256 l.checksums done × (done ++ checksum_bytes (blocks l.fn.block_len (chunks_rest l.block-iterator)) ≡ checksum_bytes (blocks l.fn.block_len l.fn.file)))
