use Rattle.std.proofs.Common.{◌∙◌, ◌*◌, ◌^◌}
use Rattle.ii_ranking.specs.LeafScorers.{score_by_term}
use Rattle.ii_ranking.proofs.LeafLemmas.{leaf_is}
use Rattle.ii_ranking.proofs.opening.open_term.Goals as goal

pub returns-in-Ok-clause-scores : goal.returns-in-Ok-clause-scores
returns-in-Ok-clause-scores g c = λ doc. c.one.ensures.scores doc ∙ leaf_is (score_by_term c.in-Ok.scorer) _ (c.in-Ok.scorer.by.weight.weight * 2 ^ 16) c.in-Ok.ensures.scores c.in-Ok.ensures.ends doc
