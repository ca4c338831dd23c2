use Rattle.std.proofs.Common.{◌≡◌, ◌*◌, ◌≤◌, ◌++◌, take, drop}
use Rattle.ii_codes.specs.Sums.{DoNotFall}
use Rattle.ii_codes.specs.SortedVints.{sorted_vints}
use Rattle.ii_codes.proofs.vint.write_sorted.Given as goal

abbrev pub invariant-loop-value : goal.invariant-loop-value
invariant-loop-value l = record {
  few : l.end ≤ 5 * l.value-index;
  sorted : DoNotFall l.before (drop l.value-index l.input);
  written : take l.end l.output ++ sorted_vints l.before (drop l.value-index l.input) ≡ sorted_vints l.offset l.input;
}
