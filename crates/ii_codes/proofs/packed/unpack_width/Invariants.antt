use Rattle.std.proofs.Common.{◌≡◌, ◌+◌, ◌*◌, take}
use Rattle.ii_codes.specs.Blocks.{raised}
use Rattle.ii_codes.specs.Packed.{entries_in}
use Rattle.ii_codes.proofs.packed.unpack_width.Given as goal

abbrev pub invariant-loop-group : goal.invariant-loop-group
invariant-loop-group g l = take (8 * l.group) l.output ≡ raised l.more (entries_in 8 g.row.W (8 * l.group) l.bytes)

abbrev pub invariant-loop-i : goal.invariant-loop-i
invariant-loop-i g l = take (8 * l.group + l.i) l.output ≡ raised l.more (entries_in 8 g.row.W (8 * l.group + l.i) l.bytes)
