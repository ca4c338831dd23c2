use Rattle.std.proofs.Common.{◌≡◌, ◌∙◌, ℕ, ap, rules}
use Rattle.ii_base.specs.declared.doc_id.TheConstants.{TERMINATED}
use Rattle.ii_scorer.specs.Combinations.{unless}
use Rattle.ii_scorer.proofs.BoundLemmas.{row_bound_at}
use Rattle.ii_scorer.proofs.PartsLemmas.{row_end, row_is, unless_ends}
use Rattle.ii_prepared_term.specs.PreparedParts.{prepared_parts_bound, prepared_parts_score}
use Rattle.ii_prepared_term.specs.PreparedQueries.{PreparedQueryState, prepared_query_bound, prepared_query_score}
use Rattle.ii_prepared_term.specs.declared.prepared_query.PreparedParts.TheVariants.{Without}
use Rattle.ii_prepared_term.proofs.prepared_query.PreparedQuery.without.Goals as goal

pub returns-clause-scores : goal.returns-clause-scores
returns-clause-scores c =
    let first : c.in_ok-first.first.value ≡ c.args.first = search rules in
    let other : c.in_ok-other.other.value ≡ c.args.other = search rules in
    row_is (prepared_parts_score (Without c.in_ok-first.first c.in_ok-other.other)) (λ (d : ℕ). unless (prepared_query_score c.args.first d) (prepared_query_score c.args.other d))
    (λ d. (λ j. unless (prepared_query_score (first j) d) (prepared_query_score (other j) d)))
    (λ d end. unless_ends (prepared_query_score c.args.first d) (prepared_query_score c.args.other d) (c.requires d end))

pub returns-clause-bounds : goal.returns-clause-bounds
returns-clause-bounds c = λ doc low.
    let first : c.in_ok-first.first.value ≡ c.args.first = search rules in
    row_bound_at (prepared_parts_bound (Without c.in_ok-first.first c.in_ok-other.other)) doc low ∙ ap (λ (s : PreparedQueryState). prepared_query_bound s doc) first

pub returns-clause-ends : goal.returns-clause-ends
returns-clause-ends c = λ doc end. row_end TERMINATED (prepared_parts_score (Without c.in_ok-first.first c.in_ok-other.other)) doc end
