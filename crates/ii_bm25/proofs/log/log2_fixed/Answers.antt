use Rattle.std.proofs.Common.{arith}
use Rattle.ii_bm25.proofs.LogLemmas.{begins, squares_high, squares_low}
use Rattle.ii_bm25.proofs.log.log2_fixed.Goals as goal
use Rattle.ii_bm25.proofs.log.log2_fixed.Goals.{then-square, else-square}

pub overflow_cast-mantissa-2 : goal.overflow_cast-mantissa-2
overflow_cast-mantissa-2 c =
    let start = begins c.args.x c.from-exponent.result c.from.result c.requires c.ranges.x.fits c.from.ensures c.from-exponent.ensures in
    let high = start.high in
    omega arith

pub loop-left-init : goal.loop-left-init
loop-left-init c = begins c.args.x c.from-exponent.result c.from.result c.requires c.ranges.x.fits c.from.ensures c.from-exponent.ensures

pub loop-left-preserved : goal.loop-left-preserved
loop-left-preserved c =
    let k = c.loop-left.invariant in
    elim c.if-square.branch [
      | then-square w ↦ rw (w.exponent-is, w.mantissa-is) (squares_low c.args.x c.loop-left.exponent c.loop-left.mantissa c.loop-left.left k c.loop-left-test.true w.if-square.true)
      | else-square w ↦ rw (w.exponent-is, w.mantissa-is) (squares_high c.args.x c.loop-left.exponent c.loop-left.mantissa c.loop-left.left k c.loop-left-test.true w.if-square.false)
    ]
