use Rattle.std.proofs.Common.{ℕ, None, Some, if◌then◌else◌, min, nat_lt, refl}
use Rattle.ii_bm25.specs.declared.bm25.TheConstants.{SCORE_ONE}
use Rattle.ii_scorer.proofs.BoundLemmas.{row_bound_at}
use Rattle.ii_scorer.proofs.PartsLemmas.{all_ends}
use Rattle.ii_scorer.proofs.PartsLemmas.{row_end, row_is}
use Rattle.ii_base.specs.declared.doc_id.TheConstants.{TERMINATED}
use Rattle.ii_prepared_term.specs.PreparedParts.{prepared_parts_bound, prepared_parts_score}
use Rattle.ii_prepared_term.specs.declared.prepared_query.PreparedParts.TheVariants.{All}
use Rattle.ii_prepared_term.proofs.prepared_query.PreparedQuery.all.Goals as goal

pub returns-clause-scores : goal.returns-clause-scores
returns-clause-scores c = row_is (prepared_parts_score (All c.args.limit)) (λ (d : ℕ). if nat_lt d (min c.args.limit TERMINATED) then Some SCORE_ONE else None) (λ d. refl) (all_ends c.args.limit)

pub returns-clause-bounds : goal.returns-clause-bounds
returns-clause-bounds c = λ doc low. row_bound_at (prepared_parts_bound (All c.args.limit)) doc low

pub returns-clause-ends : goal.returns-clause-ends
returns-clause-ends c = λ doc end. row_end TERMINATED (prepared_parts_score (All c.args.limit)) doc end
