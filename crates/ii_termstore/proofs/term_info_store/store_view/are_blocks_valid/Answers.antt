use Rattle.std.proofs.Common.{◌≡◌, arith, sym}
use Rattle.ii_termstore.specs.TermStore.{block_count}
use Rattle.ii_termstore.proofs.ListLemmas.{all_more}
use Rattle.ii_termstore.proofs.StoreLemmas.{not_valid}
use Rattle.ii_termstore.proofs.term_info_store.store_view.are_blocks_valid.Goals as goal

pub returns-then-not-is_block_valid : goal.returns-then-not-is_block_valid
returns-then-not-is_block_valid c = not_valid c.args.metas.now c.args.bits.now c.args.terms c.loop-b.b (omega arith) (sym c.if-not-is_block_valid.ensures)

pub loop-b-preserved : goal.loop-b-preserved
loop-b-preserved c = all_more _ c.loop-b.b c.loop-b.invariant (sym c.if-not-is_block_valid.ensures)

pub returns : goal.returns
returns c = let end : c.loop-b.b ≡ block_count c.args.terms = omega arith in sym (rw end at c.loop-b.invariant)
