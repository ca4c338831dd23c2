use Rattle.ii_segments.proofs.DocumentLaws.{segments_are_one_index as law}
use Rattle.ii_segments.proofs.laws.segments_are_one_index.Goals as goal

pub returns : goal.returns
returns c = law
