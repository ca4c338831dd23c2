use Rattle.std.proofs.Common.{◌≡◌, ◌++◌, true, take, drop}
use Rattle.ii_codes.specs.Sums.{fit_u32, running_sums}
use Rattle.ii_reader.proofs.segment_postings.prefix_sum.Given as goal

abbrev pub invariant-loop-i : goal.invariant-loop-i
invariant-loop-i l = record {
  values : take l.i l.values ++ running_sums l.before (drop l.i l.values) ≡ running_sums l.offset l.initial.values;
  fit : fit_u32 (running_sums l.before (drop l.i l.values)) ≡ true;
}
