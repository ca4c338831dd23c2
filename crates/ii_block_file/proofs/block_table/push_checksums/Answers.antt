use Rattle.std.proofs.Common.{◌≡◌, ◌++◌, append_assoc, append-nil, length, ℕ, map, sym, ap, ◌∙◌, arith}
use Rattle.std.specs.Int.{w64, to_le_bytes}
use Rattle.std.specs.List.{range_with_len}
use Rattle.ii_store.specs.FileDigest.{block_checksum, checksum_bytes}
use Rattle.ii_block_file.specs.BlockTable.{file_block, num_file_blocks}
use Rattle.ii_block_file.proofs.TableLaws.{blocks_divide, next_checksum}
use Rattle.ii_block_file.proofs.block_table.push_checksums.Goals as goal

pub loop-place-init : goal.loop-place-init
loop-place-init c = sym (append-nil c.args.checksums.now.items)

pub loop-place-preserved : goal.loop-place-preserved
loop-place-preserved c =
    let part = c.args.part.now in
    let place = c.loop-place.place in
    let at = λ (k : ℕ). file_block k part in
    let old = c.args.checksums.now.items in
    let sum : c.to_le_bytes-checksum.result ≡ to_le_bytes w64 (block_checksum (file_block place part)) = c.to_le_bytes-checksum.ensures ∙ ap (to_le_bytes w64) (c.checksum_of.ensures ∙ ap block_checksum c.file_block.ensures) in
    c.in_ok-extend_from_slice.ensures.items ∙ (λ i. c.loop-place.invariant i ++ sum i) ∙ append_assoc old (checksum_bytes (map at (range_with_len 0 place))) (to_le_bytes w64 (block_checksum (at place))) ∙ ap (λ bs. old ++ bs) (sym (next_checksum at place))

pub returns : goal.returns
returns c =
    let part = c.args.part.now in
    let all : c.loop-place.place ≡ num_file_blocks (length part) = omega (arith, c.loop-place-test.false, c.loop-place.auto.place-end, c.div_ceil-place-end.ensures ∙ blocks_divide (length part)) in
    c.loop-place.invariant ∙ ap (λ n. c.args.checksums.now.items ++ checksum_bytes (map (λ (k : ℕ). file_block k part) (range_with_len 0 n))) all
