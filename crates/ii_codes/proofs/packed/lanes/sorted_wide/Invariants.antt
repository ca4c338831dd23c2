use Rattle.std.proofs.Common.{◌*◌}
use Rattle.ii_codes.specs.Packed.{unpacked}
use Rattle.ii_codes.proofs.WideLaneLemmas.{IsSummingFours}
use Rattle.ii_codes.proofs.packed.lanes.sorted_wide.Given as goal

abbrev pub invariant-loop-group : goal.invariant-loop-group
invariant-loop-group g l = IsSummingFours l.gap l.least (8 * l.group) (unpacked g.row.W l.bytes) l.output l.before
