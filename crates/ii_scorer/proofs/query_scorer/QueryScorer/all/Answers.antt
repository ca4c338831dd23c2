use Rattle.std.proofs.Common.{ℕ, None, Some, if◌then◌else◌, min, nat_lt, refl}
use Rattle.ii_base.specs.declared.doc_id.TheConstants.{TERMINATED}
use Rattle.ii_bm25.specs.declared.bm25.TheConstants.{SCORE_ONE}
use Rattle.ii_scorer.specs.QueryScorers.{score_by_parts}
use Rattle.ii_scorer.specs.declared.query_scorer.ScorerParts.TheVariants.{All}
use Rattle.ii_scorer.proofs.BoundLemmas.{row_bound_at}
use Rattle.ii_scorer.proofs.PartsLemmas.{all_ends, row_is}
use Rattle.ii_scorer.proofs.query_scorer.QueryScorer.all.Goals as goal

pub returns-clause-scores : goal.returns-clause-scores
returns-clause-scores g c = row_is (score_by_parts g.T.Scorer.state (All c.args.limit)) (λ (d : ℕ). if nat_lt d (min c.args.limit TERMINATED) then Some SCORE_ONE else None) (λ d. refl) (all_ends c.args.limit)

pub returns-clause-bounds : goal.returns-clause-bounds
returns-clause-bounds g c = λ doc low. row_bound_at (λ (d : ℕ). SCORE_ONE) doc low
