use Rattle.std.proofs.Common.{ℕ, ◌+◌, ◌-◌, ◌≡◌, ◌^◌, ◌<◌, ◌≤◌, length, take, drop}
use Rattle.std.specs.List.{sum}
use Rattle.ii_check.specs.CheckedPositions.{SpendsTo}
use Rattle.ii_check.proofs.positions.position_fits.Given as goal

abbrev pub invariant-loop-done : goal.invariant-loop-done
invariant-loop-done l = record {
  within : l.done ≤ l.freq;
  same : l.reader.deltas ≡ l.fn.reader.deltas;
  total : l.position ≡ sum (take l.done (drop l.start l.fn.reader.deltas));
  low : l.position < 2 ^ 32;
  size : length l.buffer ≡ 128;
  decodes : (before : ℕ) → SpendsTo before l.start l.fn.reader → SpendsTo before (l.start + l.done) l.reader;
}

abbrev pub decreases-loop-done : goal.decreases-loop-done
decreases-loop-done l = l.freq - l.done
