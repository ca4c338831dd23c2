use Rattle.std.proofs.Common.{refl}
use Rattle.ii_scorer.specs.QueryScorers.{score_by_parts}
use Rattle.ii_scorer.specs.Scorers.{doc_bound, score_of}
use Rattle.ii_scorer.specs.declared.query_scorer.ScorerParts.TheVariants.{One}
use Rattle.ii_scorer.proofs.BoundLemmas.{row_bound_at}
use Rattle.ii_scorer.proofs.PartsLemmas.{row_is}
use Rattle.ii_scorer.proofs.query_scorer.QueryScorer.one.Goals as goal

pub returns-clause-scores : goal.returns-clause-scores
returns-clause-scores g c = row_is (score_by_parts g.T.Scorer.state (One c.args.scorer)) (score_of (g.T.Scorer.state c.args.scorer)) (λ d. refl) c.max_score-most.ensures.bounded.ends

pub returns-clause-bounds : goal.returns-clause-bounds
returns-clause-bounds g c = λ doc low. row_bound_at (doc_bound (g.T.Scorer.state c.args.scorer)) doc low
