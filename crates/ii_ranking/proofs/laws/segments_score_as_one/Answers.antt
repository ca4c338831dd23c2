use Rattle.ii_ranking.proofs.LocalScores.{scores_are_local}
use Rattle.ii_ranking.proofs.OneIndexLaws.{segments_score_as_one}
use Rattle.ii_ranking.proofs.laws.segments_score_as_one.Goals as goal

pub returns-clause-local : goal.returns-clause-local
returns-clause-local c = scores_are_local

pub returns-clause-same : goal.returns-clause-same
returns-clause-same c = segments_score_as_one
