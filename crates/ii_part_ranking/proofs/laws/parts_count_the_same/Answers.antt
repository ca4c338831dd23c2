use Rattle.ii_part_ranking.proofs.PartStatisticsLemmas.{parts_count_the_same}
use Rattle.ii_part_ranking.proofs.laws.parts_count_the_same.Goals as goal

pub returns : goal.returns
returns c = parts_count_the_same
