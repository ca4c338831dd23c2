use Rattle.std.proofs.Common.{arith}
use Rattle.ii_query.proofs.bit_set.grow.Goals as goal

pub returns-clause-size : goal.returns-clause-size
returns-clause-size c =
    let i = c.loop-size.invariant in
    let size = i.size in
    let low = i.low in
    let within = i.within in
    let past = c.loop-size-test.false in
    omega (arith, size, low, within, past)
