use Rattle.std.proofs.Common.{arith, refl}
use Rattle.ii_io.specs.Vints.{vint_u32}
use Rattle.ii_io.proofs.VintLemmas.{writing-first, writing-more, writing-last, writing-last-after}
use Rattle.ii_io.proofs.vint.write_u32.Goals as goal

pub loop-high-init : goal.loop-high-init
loop-high-init c = writing-first 4 c.args.output.now c.args.start c.args.value (omega arith)

pub loop-high-preserved : goal.loop-high-preserved
loop-high-preserved c = writing-more 4 c.args.output.now c.loop-high.output _ c.args.start c.loop-high.end c.loop-high.high c.args.value c.loop-high.invariant (omega arith) (omega arith) refl

pub returns-clause-written : goal.returns-clause-written
unfolding vint_u32
returns-clause-written c = writing-last 4 c.args.output.now c.loop-high.output _ c.args.start c.loop-high.end c.loop-high.high c.args.value c.loop-high.invariant (omega arith) (omega arith) refl

pub returns-clause-after : goal.returns-clause-after
returns-clause-after c = writing-last-after 4 c.args.output.now c.loop-high.output _ c.args.start c.loop-high.end c.loop-high.high c.args.value c.loop-high.invariant refl
