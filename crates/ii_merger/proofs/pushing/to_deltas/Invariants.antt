use Rattle.std.proofs.Common.{◌≡◌, ◌++◌, drop, length, take}
use Rattle.ii_codes.specs.Sums.{differences}
use Rattle.ii_merger.proofs.pushing.to_deltas.Given as goal

abbrev pub invariant-loop-place : goal.invariant-loop-place
invariant-loop-place l = (take l.place l.positions ++ differences l.before (drop l.place l.positions) ≡ differences 0 l.fn.positions) × (length l.positions ≡ length l.fn.positions)
