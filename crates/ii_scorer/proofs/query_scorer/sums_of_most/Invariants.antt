use Rattle.std.proofs.Common.{◌≡◌, ◌++◌, drop}
use Rattle.ii_scorer.specs.Scorers.{sums_after}
use Rattle.ii_scorer.proofs.query_scorer.sums_of_most.Given as goal

abbrev pub invariant-loop-place : goal.invariant-loop-place
invariant-loop-place g l = l.sums.items ++ sums_after l.sum (drop l.place l.parts.items) ≡ sums_after 0 l.parts.items
