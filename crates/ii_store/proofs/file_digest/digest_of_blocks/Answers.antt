use Rattle.std.proofs.Common.{◌≡◌, ℕ, List, [], ◌++◌, sym, ap, ◌∙◌, rules, append_assoc, append-nil}
use Rattle.std.specs.Int.{w64, to_le_bytes}
use Rattle.std.specs.Slice.Iter.{chunks_rest}
use Rattle.std.proofs.lemmas.List.{nil_from_length}
use Rattle.sha2.specs.Sha256.{sha256}
use Rattle.ii_store.specs.FileDigest.{block_checksum, blocks, blocks_digest, checksum_bytes}
use Rattle.ii_store.proofs.BlockLaws.{first_block, no_blocks}
use Rattle.ii_store.proofs.file_digest.digest_of_blocks.Goals as goal

pub loop-block-init : goal.loop-block-init
loop-block-init c = (search rules, tt, search rules, ([], search rules, search rules))

pub loop-block-preserved : goal.loop-block-preserved
loop-block-preserved c =
    let steps = c.in-Some.ensures.steps in
    let size = c.loop-block.invariant.2 in
    let so_far = c.loop-block.invariant.3 in
    let block = c.in-Some.block.now in
    let left = chunks_rest c.next.new.self in
    let bytes : c.to_le_bytes.result ≡ to_le_bytes w64 (block_checksum block) = c.to_le_bytes.ensures ∙ ap (to_le_bytes w64) c.checksum_of.ensures in
    let first = first_block _ c.requires _ block left steps.1.0 (rw size at steps.1.1) steps.1.2 in (
      search rules,
      tt,
      steps.0 ∙ size,
      (
        so_far.0 ++ c.to_le_bytes.result,
        c.update.ensures so_far.0 so_far.1,
        append_assoc so_far.0 _ _ ∙ ap (λ (t : List ℕ). so_far.0 ++ t) (ap (λ (t : List ℕ). t ++ checksum_bytes (blocks c.args.block_len left)) bytes ∙ sym (ap checksum_bytes first)) ∙ so_far.2,
      ),
    )

pub returns : goal.returns
unfolding blocks_digest
returns c =
    let so_far = c.loop-block.invariant.3 in
    let none = nil_from_length _ c.in-None.ensures.steps.1.0 in
    c.finalize.ensures so_far.0 so_far.1 ∙ ap sha256 (sym (append-nil so_far.0) ∙ ap (λ (bs : List (List ℕ)). so_far.0 ++ checksum_bytes bs) (sym (no_blocks c.args.block_len c.requires)) ∙ ap (λ (rest : List ℕ). so_far.0 ++ checksum_bytes (blocks c.args.block_len rest)) (sym none) ∙ so_far.2)
