use Rattle.nequllpa_merging.proofs.PolicyLaws.{settled_are_few as law}
use Rattle.nequllpa_merging.proofs.merge_policy.settled_are_few.Goals as goal

pub returns : goal.returns
returns c = law
