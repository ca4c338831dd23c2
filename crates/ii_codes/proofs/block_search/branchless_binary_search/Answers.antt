use Rattle.std.proofs.Common.{◌≡◌, arith}
use Rattle.ii_codes.proofs.SearchLemmas.{ends, halves, next_step}
use Rattle.ii_codes.proofs.block_search.branchless_binary_search.Goals as goal

pub overflow_sub-start : goal.overflow_sub-start
overflow_sub-start c = let some = (halves c.loop-step.step c.loop-step-test.true).some in omega arith

pub loop-step-preserved : goal.loop-step-preserved
loop-step-preserved c = rw c.from.ensures (next_step c.args.target c.args.arr.now c.loop-step.start c.loop-step.step c.requires.sorted c.loop-step-test.true c.loop-step.invariant)

pub returns : goal.returns
returns c =
    let over = c.loop-step-test.false in
    let last = c.loop-step.auto.step-end in
    let end : c.loop-step.step ≡ 7 = omega arith in
    ends c.args.target c.args.arr.now c.loop-step.start (rw end at c.loop-step.invariant)
