use Rattle.std.proofs.Common.{◌-◌, ◌<◌, ◌≤◌, length}
use Rattle.ii_alive.specs.Alive.{rank}
use Rattle.ii_alive.proofs.alive_bits.AliveBits.select.Given as goal

abbrev pub invariant-loop-high : goal.invariant-loop-high
invariant-loop-high l = (l.low < l.high) × (l.high ≤ length l.self) × (rank l.self l.low ≤ l.n) × (l.n < rank l.self l.high)

abbrev pub decreases-loop-high : goal.decreases-loop-high
decreases-loop-high l = l.high - l.low
