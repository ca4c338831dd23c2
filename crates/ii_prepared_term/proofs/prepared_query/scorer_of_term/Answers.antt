use Rattle.std.proofs.Common.{◌∙◌, ap}
use Rattle.ii_scorer.proofs.BoundLemmas.{row_bound_at}
use Rattle.ii_prepared_term.specs.PreparedScorers.{PreparedScorerState}
use Rattle.ii_prepared_term.specs.PreparedTerms.{prepared_bound}
use Rattle.ii_prepared_term.proofs.prepared_query.scorer_of_term.Goals as goal

pub returns-clause-scores : goal.returns-clause-scores
returns-clause-scores c = λ doc. c.one.ensures.scores doc ∙ c.in_ok-scorer.ensures.scores doc

pub returns-clause-bounds : goal.returns-clause-bounds
returns-clause-bounds c = λ doc low. c.one.ensures.bounds doc low ∙ row_bound_at (prepared_bound c.in_ok-scorer.scorer.term) doc low ∙ ap (λ (s : PreparedScorerState). prepared_bound s.term doc) c.in_ok-scorer.ensures.starts
