use Rattle.ii_segment_search.proofs.LocalLaws.{search_is_local as law}
use Rattle.ii_segment_search.proofs.laws.search_is_local.Goals as goal

pub returns : goal.returns
returns c = law
