use Rattle.std.proofs.Common.{◌*◌}
use Rattle.ii_codes.specs.Packed.{unpacked}
use Rattle.ii_codes.proofs.LaneLemmas.{IsSummingLanes}
use Rattle.ii_codes.proofs.packed.lanes.sorted_narrow.Given as goal

abbrev pub invariant-loop-group : goal.invariant-loop-group
invariant-loop-group g l = IsSummingLanes l.gap l.least (8 * l.group) (unpacked g.row.W l.bytes) l.output l.before
