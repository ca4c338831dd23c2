use Rattle.std.proofs.Common.{◌≡◌, ◌*◌, take}
use Rattle.ii_codes.specs.Packed.{entries_in}
use Rattle.ii_codes.proofs.packed.pairs.pack_narrow.Given as goal

abbrev pub invariant-loop-group : goal.invariant-loop-group
invariant-loop-group g l = take (2 * l.group * g.row.W) l.output ≡ entries_in g.row.W 8 (2 * l.group * g.row.W) l.entries
