use Rattle.nequllpa_merging.proofs.PolicyLaws.{merges_settle as law}
use Rattle.nequllpa_merging.proofs.merge_policy.merges_settle.Goals as goal

pub returns : goal.returns
returns c = law
