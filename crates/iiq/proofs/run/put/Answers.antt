use Rattle.std.proofs.Common.{arith}
use Rattle.ii_io.proofs.CountingWriterLemmas.{Appends-more}
use Rattle.iiq.proofs.RunLemmas.{puts_kept, puts_nothing}
use Rattle.iiq.proofs.run.put.Goals as goal

pub returns-in_default-clause-err : goal.returns-in_default-clause-err
returns-in_default-clause-err g c = puts_kept _ _ _ c.args.bytes.now c.loop-done.done c.loop-done.invariant.appends c.in_default.ensures.bytes

pub returns-then-count-eq0-clause-err : goal.returns-then-count-eq0-clause-err
returns-then-count-eq0-clause-err g c = puts_nothing _ _ _ c.args.bytes.now c.loop-done.done c.loop-done.invariant.appends (rw c.if-count-eq0.true at c.in-Ok.ensures.bytes)

pub loop-done-preserved : goal.loop-done-preserved
loop-done-preserved g c =
    let known = c.loop-done.invariant in
    record {
      within = grind arith;
      appends = Appends-more _ _ _ c.args.bytes.now c.loop-done.done c.in-Ok.count known.appends c.in-Ok.ensures.bytes;
    }
