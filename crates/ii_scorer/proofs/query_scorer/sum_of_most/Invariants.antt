use Rattle.std.proofs.Common.{◌≡◌, ◌≤◌, drop, length}
use Rattle.std.specs.List.{AllByRecursion}
use Rattle.ii_scorer.specs.Scorers.{IsBounded, most_of}
use Rattle.ii_scorer.proofs.query_scorer.sum_of_most.Given as goal

abbrev pub decreases-loop-place : goal.decreases-loop-place
decreases-loop-place g l = l.place

abbrev pub invariant-loop-place : goal.invariant-loop-place
invariant-loop-place g l = record {
  within : l.place ≤ length l.parts.items;
  sum : l.sum ≡ most_of (drop l.place l.parts.items);
  bounded : AllByRecursion IsBounded (drop l.place l.parts.items);
}
