use Rattle.std.proofs.Common.{◌≡◌, ◌+◌, ◌∷◌, [], arith, rules, ap, ◌∙◌, length, length-append}
use Rattle.ii_termstore.proofs.GatherLemmas.{gathered_more, gathered_flushed}
use Rattle.ii_termstore.proofs.term_info_store.gathered_blocks.add_term.Goals as goal

pub returns-then-len-lt-BLOCK_LEN-clause-gathered : goal.returns-then-len-lt-BLOCK_LEN-clause-gathered
returns-then-len-lt-BLOCK_LEN-clause-gathered c = λ infos h.
    let next : c.in-Some.num_terms ≡ c.args.blocks.now.num_terms + 1 = search rules in
    let items = rw c.copied.ensures at c.in_ok-push.ensures.items in
    let size = ap length items ∙ length-append c.args.blocks.now.open_block.items (c.args.info.now ∷ []) in
    rw (next, items) (gathered_more infos c.args.info.now (record {
      num_terms = c.args.blocks.now.num_terms;
      block_metas = c.args.blocks.now.block_metas.items;
      block_bits = c.args.blocks.now.block_bits.items;
      open_block = c.args.blocks.now.open_block.items;
    }) h (omega arith))

pub returns-clause-gathered : goal.returns-clause-gathered
returns-clause-gathered c = λ infos h.
    let next : c.in-Some.num_terms ≡ c.args.blocks.now.num_terms + 1 = search rules in
    let items = rw c.copied.ensures at c.in_ok-push.ensures.items in
    let size = ap length items ∙ length-append c.args.blocks.now.open_block.items (c.args.info.now ∷ []) in
    gathered_flushed infos c.args.info.now (record {
      num_terms = c.args.blocks.now.num_terms;
      block_metas = c.args.blocks.now.block_metas.items;
      block_bits = c.args.blocks.now.block_bits.items;
      open_block = c.args.blocks.now.open_block.items;
    }) (record {
      num_terms = c.flush_block.new.blocks.num_terms;
      block_metas = c.flush_block.new.blocks.block_metas.items;
      block_bits = c.flush_block.new.blocks.block_bits.items;
      open_block = c.flush_block.new.blocks.open_block.items;
    }) c.push.new.self.items c.in-Some.num_terms c.flush_block.result h items (omega arith) next c.flush_block.ensures.metas c.flush_block.ensures.bits c.flush_block.ensures.terms
