use Rattle.std.proofs.Common.{ℕ, None, refl}
use Rattle.ii_scorer.specs.QueryScorers.{score_by_parts}
use Rattle.ii_scorer.specs.declared.query_scorer.ScorerParts.TheVariants.{Nothing}
use Rattle.ii_scorer.proofs.BoundLemmas.{row_bound_at}
use Rattle.ii_scorer.proofs.PartsLemmas.{row_is}
use Rattle.ii_scorer.proofs.query_scorer.QueryScorer.nothing.Goals as goal

pub returns-clause-scores : goal.returns-clause-scores
returns-clause-scores g c = row_is (score_by_parts g.T.Scorer.state Nothing) (λ (d : ℕ). None) (λ d. refl) (λ d end. refl)

pub returns-clause-bounds : goal.returns-clause-bounds
returns-clause-bounds g c = λ doc low. row_bound_at (λ (d : ℕ). 0) doc low
