use Rattle.std.proofs.Common.{arith}
use Rattle.ii_io.proofs.CountingWriterLemmas.{Appends-more}
use Rattle.ii_io.proofs.WriteCallsLemmas.{Rises-accepted}
use Rattle.ii_io.proofs.counted_calls.CountedCalls.write_all.Goals as goal

pub loop-done-preserved : goal.loop-done-preserved
loop-done-preserved g c =
    let known = c.loop-done.invariant in
    record {
      within = grind (arith);
      appends = Appends-more _ _ _ c.args.buf.now c.loop-done.done c.write_some-count.result known.appends c.write_some-count.ensures.bytes;
      written = omega arith;
      room = omega arith;
      failed = known.failed;
      can_fail = known.can_fail;
      failures = Rises-accepted _ _ _ c.write_some-count.result c.if-count-eq0.false known.failures c.write_some-count.ensures.failures;
    }
