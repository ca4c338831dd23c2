use Rattle.std.proofs.Common.{sym, ◌∙◌, arith}
use Rattle.ii_layout.proofs.SplitLemmas.{narrow_more, narrow_not, narrow_all}
use Rattle.ii_layout.proofs.split.counts_are_narrow.Goals as goal

pub returns-then-tf_num_bits-gt-MAX_TF_NUM_BITS : goal.returns-then-tf_num_bits-gt-MAX_TF_NUM_BITS
returns-then-tf_num_bits-gt-MAX_TF_NUM_BITS c =
    sym (c.loop-i.invariant ∙ narrow_not c.args.skip_info c.args.blocks c.loop-i.i c.tf_num_bits.result c.args.skip_data.now _ c.loop-i-test.true c.read_entry_at-info.ensures.info c.tf_num_bits.ensures (omega arith))

pub loop-i-preserved : goal.loop-i-preserved
loop-i-preserved c =
    c.loop-i.invariant ∙ narrow_more c.args.skip_info c.args.blocks c.loop-i.i c.tf_num_bits.result c.args.skip_data.now _ c.loop-i-test.true c.read_entry_at-info.ensures.info c.tf_num_bits.ensures (omega arith)

pub returns : goal.returns
returns c = sym (c.loop-i.invariant ∙ narrow_all c.args.skip_info c.args.blocks c.loop-i.i c.args.skip_data.now (omega arith))
