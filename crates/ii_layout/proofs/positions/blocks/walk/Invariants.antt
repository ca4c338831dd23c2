use Rattle.std.proofs.Common.{◌≡◌}
use Rattle.ii_layout.specs.Positions.{place_by_widths}
use Rattle.ii_layout.proofs.positions.blocks.walk.Given as goal

abbrev pub invariant-loop-i : goal.invariant-loop-i
invariant-loop-i l = l.place ≡ place_by_widths l.widths l.i
