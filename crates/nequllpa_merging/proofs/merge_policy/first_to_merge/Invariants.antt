use Rattle.nequllpa_merging.proofs.PolicyLaws.{IsScanning}
use Rattle.nequllpa_merging.proofs.merge_policy.first_to_merge.Given as goal

abbrev pub invariant-loop-place : goal.invariant-loop-place
invariant-loop-place l = IsScanning l.num_living l.place l.first l.behind

abbrev pub decreases-loop-place : goal.decreases-loop-place
decreases-loop-place l = l.place
