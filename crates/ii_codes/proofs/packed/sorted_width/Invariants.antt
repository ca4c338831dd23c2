use Rattle.std.proofs.Common.{◌+◌, ◌*◌}
use Rattle.ii_codes.specs.Packed.{unpacked}
use Rattle.ii_codes.proofs.PrefixLemmas.{IsSumming}
use Rattle.ii_codes.proofs.packed.sorted_width.Given as goal

abbrev pub invariant-loop-group : goal.invariant-loop-group
invariant-loop-group g l = IsSumming l.gap l.least l.next (8 * l.group) (unpacked g.row.W l.bytes) l.output

abbrev pub invariant-loop-i : goal.invariant-loop-i
invariant-loop-i g l = IsSumming l.gap l.least l.next (8 * l.group + l.i) (unpacked g.row.W l.bytes) l.output
