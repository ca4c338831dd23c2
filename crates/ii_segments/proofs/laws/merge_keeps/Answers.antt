use Rattle.ii_segments.proofs.MergeLaws.{merge_keeps as law}
use Rattle.ii_segments.proofs.laws.merge_keeps.Goals as goal

pub returns : goal.returns
returns c = law
