use Rattle.std.proofs.Common.{◌≤◌, ◌<◌, ◌-◌, get_or, length}
use Rattle.ii_scorer.proofs.query_scorer.num_below.Given as goal

abbrev pub decreases-loop-count : goal.decreases-loop-count
decreases-loop-count l = length l.sums.items - l.count

abbrev pub invariant-loop-count : goal.invariant-loop-count
invariant-loop-count l = record {
  within : l.count ≤ length l.sums.items;
  below : 0 < l.count → get_or l.sums.items (l.count - 1) 0 < l.least;
}
