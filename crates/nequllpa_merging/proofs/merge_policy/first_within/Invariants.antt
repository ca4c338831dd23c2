use Rattle.nequllpa_merging.proofs.PolicyLaws.{IsAdding}
use Rattle.nequllpa_merging.proofs.merge_policy.first_within.Given as goal

abbrev pub invariant-loop-place : goal.invariant-loop-place
invariant-loop-place l = IsAdding l.limit l.lens l.place l.first l.total

abbrev pub decreases-loop-place : goal.decreases-loop-place
decreases-loop-place l = l.place
