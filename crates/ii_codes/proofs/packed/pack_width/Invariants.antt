use Rattle.std.proofs.Common.{◌≡◌, ◌*◌, take}
use Rattle.ii_codes.specs.Packed.{entries_in}
use Rattle.ii_codes.proofs.packed.pack_width.Given as goal

abbrev pub invariant-loop-group : goal.invariant-loop-group
invariant-loop-group g l = take (4 * l.group * g.row.W) l.output ≡ entries_in g.row.W 8 (4 * l.group * g.row.W) l.entries
