use Rattle.ii_segment_search.proofs.FindLaws.{finds_in_segments as law}
use Rattle.ii_segment_search.proofs.laws.finds_in_segments.Goals as goal

pub returns : goal.returns
returns c = law
