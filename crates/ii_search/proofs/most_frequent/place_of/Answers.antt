use Rattle.std.proofs.Common.{length, arith}
use Rattle.ii_search.proofs.TopLemmas.{placed_at}
use Rattle.ii_search.proofs.most_frequent.place_of.Goals as goal

pub returns-then-best-i-clause-place : goal.returns-then-best-i-clause-place
returns-then-best-i-clause-place c = λ doc.
    let inside = c.loop-i-test.true in
    placed_at (doc, c.args.count) c.args.best.now c.loop-i.i (omega arith) c.loop-i.invariant (λ within. c.if-best-i.true)

pub returns-clause-place : goal.returns-clause-place
returns-clause-place c = λ doc.
    let over = c.loop-i-test.false in
    placed_at (doc, c.args.count) c.args.best.now (length c.args.best.now) (omega arith) (λ j below. c.loop-i.invariant j (omega arith)) (λ inside. absurd (omega arith))
