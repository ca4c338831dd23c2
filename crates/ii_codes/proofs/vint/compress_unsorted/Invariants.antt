use Rattle.std.proofs.Common.{◌≡◌, ◌*◌, ◌≤◌, ◌++◌, take, drop}
use Rattle.ii_codes.specs.UnsortedVints.{unsorted_vints}
use Rattle.ii_codes.proofs.vint.compress_unsorted.Given as goal

abbrev pub invariant-loop-value : goal.invariant-loop-value
invariant-loop-value l = record {
  few : l.end ≤ 5 * l.value-index;
  written : take l.end l.output ++ unsorted_vints (drop l.value-index l.input) ≡ unsorted_vints l.input;
}
