use Rattle.std.proofs.Common.{List, ◌++◌, length, ℕ, ap, ◌∙◌}
use Rattle.ii_store.specs.FileDigest.{blocks, checksum_bytes}
use Rattle.ii_block_file.specs.BlockTable.{file_block, num_file_blocks}
use Rattle.ii_block_file.proofs.TableLaws.{num_bytes}
use Rattle.ii_block_file.proofs.block_table.BlockTable.of.Goals as goal

pub invariant_of-result : goal.invariant_of-result
invariant_of-result c =
    let file = c.args.file.now in
    ap length (c.in_ok-push_checksums.ensures ∙ ap (λ (old : List ℕ). old ++ checksum_bytes (blocks 4096 file)) c.new-bytes.ensures.items) ∙ num_bytes (λ (k : ℕ). file_block k file) (num_file_blocks (length file))
