use Rattle.std.proofs.Common.{ℕ, refl}
use Rattle.ii_scorer.specs.Combinations.{each_of}
use Rattle.ii_scorer.specs.QueryScorers.{score_by_parts}
use Rattle.ii_scorer.specs.Scorers.{bound_over, scores_at}
use Rattle.ii_scorer.specs.declared.query_scorer.ScorerParts.TheVariants.{Each}
use Rattle.ii_scorer.proofs.BoundLemmas.{row_bound_at}
use Rattle.ii_scorer.proofs.PartsLemmas.{each_ends, row_is}
use Rattle.ii_scorer.proofs.query_scorer.QueryScorer.each.Goals as goal

pub returns-clause-scores : goal.returns-clause-scores
returns-clause-scores g c = row_is (score_by_parts g.T.Scorer.state (Each c.args.scorers)) (λ (d : ℕ). each_of (scores_at c.args.scorers.items d)) (λ d. refl) (λ d end. each_ends c.args.scorers.items d end c.sum_of_most-most.ensures.0)

pub returns-clause-bounds : goal.returns-clause-bounds
returns-clause-bounds g c = λ doc low. row_bound_at (bound_over c.args.scorers.items) doc low
