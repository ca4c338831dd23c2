use Rattle.std.proofs.Common.{◌≡◌, ◌+◌, ◌-◌, ◌^◌, ◌<◌, ◌≤◌, length, take}
use Rattle.std.specs.Io.KnownBytes.{Appends}
use Rattle.ii_io.specs.WriteCalls.{Rises}
use Rattle.ii_io.proofs.counted_calls.CountedCalls.write_all.Given as goal

abbrev pub invariant-loop-done : goal.invariant-loop-done
invariant-loop-done g l = record {
  within : l.done ≤ length l.buf;
  appends : Appends l.fn.self.counts.contents (g.C.WriteCalls.contents l.self-inside.underlying) (take l.done l.buf);
  written : l.self-inside.written_bytes ≡ l.fn.self.counts.written_bytes + l.done;
  room : l.fn.self.counts.written_bytes + length l.buf < 2 ^ 64;
  failed : l.self-inside.failed_calls ≡ l.fn.self.counts.failed_calls;
  can_fail : l.self-inside.failed_calls + 1 < 2 ^ 64;
  failures : Rises l.fn.self.failures (g.C.WriteCalls.failures l.self-inside.underlying) 0;
}

abbrev pub decreases-loop-done : goal.decreases-loop-done
decreases-loop-done g l = length l.buf - l.done
