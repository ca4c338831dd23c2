use Rattle.std.proofs.Common.{◌≡◌, ◌∙◌, ap, length, List, ℕ, ◌++◌, rules}
use Rattle.std.proofs.lemmas.List.{take_rest}
use Rattle.ii_termstore.proofs.GatherLemmas.{meta_has_lengths, open_bits_by, open_meta_by}
use Rattle.ii_termstore.proofs.term_info_store.gathered_blocks.flush_block.Goals as goal

pub add_meta-requires : goal.add_meta-requires
add_meta-requires c =
    meta_has_lengths _ c.args.blocks.now.open_block.items c.block_meta-meta.result (rw c.deref.ensures.value at c.block_meta-meta.ensures.value) c.requires.some c.requires.lengths

pub returns-clause-bits : goal.returns-clause-bits
returns-clause-bits c =
    let value = rw c.deref.ensures.value at c.block_meta-meta.ensures.value in
    let bits = rw (take_rest c.deref-2.result.now 1, c.deref-2.ensures.value) at c.in_ok-add_bits.ensures.ok in
    bits ∙ ap (λ (bs : List ℕ). c.args.blocks.now.block_bits.items ++ bs) (open_bits_by _ c.args.blocks.now.open_block.items c.block_meta-meta.result value c.requires.some)

pub returns-clause-metas : goal.returns-clause-metas
returns-clause-metas c =
    let size : c.len.result ≡ length c.args.blocks.now.block_bits.items = search rules in
    let value = rw (c.deref.ensures.value, size) at c.block_meta-meta.ensures.value in
    c.in_ok-add_meta.ensures.ok ∙ ap (λ (ms : List ℕ). c.args.blocks.now.block_metas.items ++ ms) (open_meta_by _ c.args.blocks.now.open_block.items c.block_meta-meta.result value c.requires.some)
