use Rattle.std.proofs.Common.{◌≡◌, ◌-◌, ◌<◌, ◌++◌, length, take}
use Rattle.ii_layout.proofs.positions.serializer.PositionWriter.write_positions_delta.Given as goal

abbrev pub invariant-loop-done : goal.invariant-loop-done
invariant-loop-done l = (length l.self-inside.block < 128) × (l.self-inside.packed ++ l.self-inside.block ≡ l.fn.self ++ take l.done l.positions_delta)

abbrev pub decreases-loop-done : goal.decreases-loop-done
decreases-loop-done l = length l.positions_delta - l.done
