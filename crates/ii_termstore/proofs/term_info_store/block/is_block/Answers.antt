use Rattle.std.proofs.Common.{◌≡◌, sym, arith, ◌∙◌}
use Rattle.ii_termstore.specs.TermStore.{block_info}
use Rattle.ii_termstore.proofs.BlockLemmas.{block-wide, block-lies_not, block-unsound, block-sound, is_some-sound}
use Rattle.ii_termstore.proofs.ListLemmas.{all_more}
use Rattle.ii_termstore.proofs.term_info_store.block.is_block.Goals as goal

pub returns-then-not-do_widths_fit : goal.returns-then-not-do_widths_fit
returns-then-not-do_widths_fit c = block-wide c.args.meta.now c.args.terms c.args.bits.now (sym c.if-not-do_widths_fit.ensures)

pub returns-then-not-do_bits_lie : goal.returns-then-not-do_bits_lie
returns-then-not-do_bits_lie c = block-lies_not c.args.meta.now c.args.terms c.args.bits.now (sym c.if-not-do_widths_fit.ensures) (sym c.if-not-do_bits_lie.ensures)

pub returns-then-is_none : goal.returns-then-is_none
returns-then-is_none c =
    let test = is_some-sound (block_info c.args.meta.now c.args.bits.now c.loop-k.k) c.sound_info.result c.sound_info.ensures in
    block-unsound c.args.meta.now c.args.terms c.loop-k.k c.args.bits.now (omega arith) (sym c.if-not-do_widths_fit.ensures) (sym c.if-not-do_bits_lie.ensures) (sym test ∙ c.if-is_none.ensures)

pub loop-k-preserved : goal.loop-k-preserved
loop-k-preserved c =
    let test = is_some-sound (block_info c.args.meta.now c.args.bits.now c.loop-k.k) c.sound_info.result c.sound_info.ensures in
    all_more _ c.loop-k.k c.loop-k.invariant (sym test ∙ c.if-is_none.ensures)

pub returns : goal.returns
returns c =
    let end : c.loop-k.k ≡ c.args.terms = omega arith in
    block-sound c.args.meta.now c.args.terms c.args.bits.now (sym c.if-not-do_widths_fit.ensures) (sym c.if-not-do_bits_lie.ensures) (rw end at c.loop-k.invariant)
