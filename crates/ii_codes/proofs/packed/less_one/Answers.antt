use Rattle.std.proofs.Common.{◌∙◌, length-set, arith}
use Rattle.ii_codes.proofs.BlockLemmas.{less_one-more, less_one-all}
use Rattle.ii_codes.proofs.packed.less_one.Goals as goal

pub loop-k-preserved : goal.loop-k-preserved
loop-k-preserved c = record {
  many = length-set _ _ _ ∙ c.loop-k.invariant.many;
  entries = less_one-more c.args.block.now c.loop-k.entries c.loop-k.k c.loop-k.invariant.entries (omega arith) (omega arith);
}

pub returns : goal.returns
returns c = less_one-all c.args.block.now c.loop-k.entries c.loop-k.k c.loop-k.invariant.entries (omega arith) (omega arith) (omega arith)
