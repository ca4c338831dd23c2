use Rattle.std.proofs.Common.{◌*◌}
use Rattle.ii_codes.specs.Packed.{unpacked}
use Rattle.ii_codes.proofs.SumLaneLemmas.{IsSumOf}
use Rattle.ii_codes.proofs.packed.lanes.sum_narrow.Given as goal

abbrev pub invariant-loop-group : goal.invariant-loop-group
invariant-loop-group g l = IsSumOf 8 (8 * l.group) (unpacked g.row.W l.bytes) l.sums
