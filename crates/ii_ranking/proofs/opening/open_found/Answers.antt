use Rattle.std.proofs.Common.{◌∙◌}
use Rattle.ii_bm25.specs.declared.bm25.TheConstants.{SCORE_ONE}
use Rattle.ii_ranking.specs.LeafScorers.{score_by_found}
use Rattle.ii_ranking.proofs.LeafLemmas.{leaf_is}
use Rattle.ii_ranking.proofs.opening.open_found.Goals as goal

pub returns-in-Ok-clause-scores : goal.returns-in-Ok-clause-scores
returns-in-Ok-clause-scores c = λ doc. c.one.ensures.scores doc ∙ leaf_is (score_by_found c.in-Ok.scorer) _ SCORE_ONE c.in-Ok.ensures.scores c.in-Ok.ensures.ends doc
