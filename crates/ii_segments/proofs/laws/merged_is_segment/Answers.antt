use Rattle.ii_segments.proofs.MergedLaws.{merged_is_segment as law}
use Rattle.ii_segments.proofs.laws.merged_is_segment.Goals as goal

pub returns : goal.returns
returns c = law
