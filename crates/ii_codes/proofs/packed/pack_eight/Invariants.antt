use Rattle.std.proofs.Common.{◌+◌, ◌*◌}
use Rattle.ii_codes.specs.Packed.{IsPackedUpTo}
use Rattle.ii_codes.proofs.packed.pack_eight.Given as goal

abbrev pub invariant-loop-i : goal.invariant-loop-i
invariant-loop-i g l = IsPackedUpTo g.row.W (32 * l.group + l.i) l.word l.entries l.output
