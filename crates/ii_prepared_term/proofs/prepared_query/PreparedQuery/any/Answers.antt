use Rattle.std.proofs.Common.{ℕ, refl}
use Rattle.ii_scorer.specs.Combinations.{any_of}
use Rattle.ii_scorer.proofs.BoundLemmas.{row_bound_at}
use Rattle.ii_scorer.proofs.PartsLemmas.{row_end, row_is}
use Rattle.ii_base.specs.declared.doc_id.TheConstants.{TERMINATED}
use Rattle.ii_prepared_term.specs.PreparedParts.{prepared_parts_bound, prepared_parts_score}
use Rattle.ii_prepared_term.specs.PreparedQueries.{scores_by}
use Rattle.ii_prepared_term.specs.declared.prepared_query.PreparedParts.TheVariants.{Any}
use Rattle.ii_prepared_term.proofs.PreparedQueryLemmas.{any_end}
use Rattle.ii_prepared_term.proofs.prepared_query.PreparedQuery.any.Goals as goal

pub returns-clause-scores : goal.returns-clause-scores
returns-clause-scores c = row_is (prepared_parts_score (Any c.args.parts)) (λ (d : ℕ). any_of (scores_by c.args.parts.items d)) (λ d. refl) (any_end c.args.parts.items c.requires)

pub returns-clause-bounds : goal.returns-clause-bounds
returns-clause-bounds c = λ doc low. row_bound_at (prepared_parts_bound (Any c.args.parts)) doc low

pub returns-clause-ends : goal.returns-clause-ends
returns-clause-ends c = λ doc end. row_end TERMINATED (prepared_parts_score (Any c.args.parts)) doc end
