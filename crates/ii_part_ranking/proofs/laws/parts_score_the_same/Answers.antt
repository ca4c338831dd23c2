use Rattle.ii_part_ranking.proofs.PartLemmas.{parts_are_damaged_the_same, parts_score_the_same}
use Rattle.ii_part_ranking.proofs.laws.parts_score_the_same.Goals as goal

pub returns-clause-scores : goal.returns-clause-scores
returns-clause-scores c = parts_score_the_same

pub returns-clause-damage : goal.returns-clause-damage
returns-clause-damage c = parts_are_damaged_the_same
