use Rattle.std.proofs.Common.{◌≡◌, ◌*◌, ◌≤◌, take}
use Rattle.std.specs.List.{sum}
use Rattle.ii_layout.proofs.serializer.sum_of.Given as goal

abbrev pub invariant-loop-value : goal.invariant-loop-value
invariant-loop-value l = record {
  total : l.sum ≡ sum (take l.value-index l.values);
  few : l.sum ≤ 4294967295 * l.value-index;
}
