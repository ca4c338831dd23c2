use Rattle.std.proofs.Common.{refl}
use Rattle.ii_scorer.proofs.BoundLemmas.{row_bound_at}
use Rattle.ii_scorer.proofs.PartsLemmas.{row_end, row_is}
use Rattle.ii_base.specs.declared.doc_id.TheConstants.{TERMINATED}
use Rattle.ii_prepared_term.specs.PreparedParts.{prepared_parts_bound, prepared_parts_score}
use Rattle.ii_prepared_term.specs.PreparedTerms.{prepared_score}
use Rattle.ii_prepared_term.specs.declared.prepared_query.PreparedParts.TheVariants.{Term}
use Rattle.ii_prepared_term.proofs.prepared_query.PreparedQuery.of_term.Goals as goal

pub returns-clause-scores : goal.returns-clause-scores
returns-clause-scores c = row_is (prepared_parts_score (Term c.args.term)) (prepared_score c.args.term) (λ d. refl) (c.requires)

pub returns-clause-bounds : goal.returns-clause-bounds
returns-clause-bounds c = λ doc low. row_bound_at (prepared_parts_bound (Term c.args.term)) doc low

pub returns-clause-ends : goal.returns-clause-ends
returns-clause-ends c = λ doc end. row_end TERMINATED (prepared_parts_score (Term c.args.term)) doc end
