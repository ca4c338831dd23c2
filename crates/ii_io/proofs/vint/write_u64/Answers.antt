use Rattle.std.proofs.Common.{arith, refl}
use Rattle.ii_io.specs.Vints.{vint_u64}
use Rattle.ii_io.proofs.VintLemmas.{writing-first, writing-more, writing-last, writing-last-after}
use Rattle.ii_io.proofs.vint.write_u64.Goals as goal

pub loop-left-init : goal.loop-left-init
loop-left-init c = writing-first 9 c.args.output.now c.args.start c.args.value (omega arith)

pub loop-left-preserved : goal.loop-left-preserved
loop-left-preserved c = writing-more 9 c.args.output.now c.loop-left.output _ c.args.start c.loop-left.end c.loop-left.left c.args.value c.loop-left.invariant (omega arith) (omega arith) refl

pub returns-clause-written : goal.returns-clause-written
unfolding vint_u64
returns-clause-written c = writing-last 9 c.args.output.now c.loop-left.output _ c.args.start c.loop-left.end c.loop-left.left c.args.value c.loop-left.invariant (omega arith) (omega arith) refl

pub returns-clause-after : goal.returns-clause-after
returns-clause-after c = writing-last-after 9 c.args.output.now c.loop-left.output _ c.args.start c.loop-left.end c.loop-left.left c.args.value c.loop-left.invariant refl
