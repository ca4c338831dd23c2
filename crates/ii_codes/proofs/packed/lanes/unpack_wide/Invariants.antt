use Rattle.std.proofs.Common.{◌≡◌, ◌*◌, ◌++◌, take, drop}
use Rattle.ii_codes.specs.Blocks.{raised}
use Rattle.ii_codes.specs.Packed.{unpacked}
use Rattle.ii_codes.proofs.packed.lanes.unpack_wide.Given as goal

abbrev pub invariant-loop-group : goal.invariant-loop-group
invariant-loop-group g l = take (8 * l.group) l.output ++ drop (8 * l.group) (raised l.more (unpacked g.row.W l.bytes)) ≡ raised l.more (unpacked g.row.W l.bytes)
