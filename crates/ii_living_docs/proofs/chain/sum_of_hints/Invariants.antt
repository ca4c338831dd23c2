use Rattle.std.proofs.Common.{◌≤◌, drop, length, take}
use Rattle.ii_living_docs.specs.Chain.{IsSumOfHints}
use Rattle.ii_living_docs.proofs.chain.sum_of_hints.Given as goal

abbrev pub invariant-loop-place : goal.invariant-loop-place
invariant-loop-place g l = IsSumOfHints (λ cursor hint. g.D.DocSet.hints cursor hint × (length (g.D.DocSet.rest cursor) ≤ hint)) (drop l.from (take l.place l.cursors.items)) l.sum
