use Rattle.ii_segments.proofs.CountLaws.{counts_of_segments as law}
use Rattle.ii_segments.proofs.laws.counts_of_segments.Goals as goal

pub returns : goal.returns
returns c = law
