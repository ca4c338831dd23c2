use Rattle.std.proofs.Common.{◌≡◌, ◌*◌, ◌≤◌, take}
use Rattle.std.specs.List.{sum}
use Rattle.ii_codes.specs.Packed.{unpacked}
use Rattle.ii_codes.specs.Blocks.{raised}
use Rattle.ii_codes.proofs.packed.sum_of.Given as goal

abbrev pub invariant-loop-entry : goal.invariant-loop-entry
invariant-loop-entry l = record {
  entries : l.entry-items ≡ raised 0 (unpacked l.width l.bytes);
  total : l.sum ≡ sum (take l.entry-index l.entry-items);
  few : l.sum ≤ 4294967295 * l.entry-index;
}
