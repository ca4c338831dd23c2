use Rattle.ii_segments.proofs.KeyLaws.{keys_of_segments as law}
use Rattle.ii_segments.proofs.laws.keys_of_segments.Goals as goal

pub returns : goal.returns
returns c = law
