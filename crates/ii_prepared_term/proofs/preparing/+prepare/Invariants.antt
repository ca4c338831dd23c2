use Rattle.std.proofs.Common.{◌≡◌, ◌<◌, ◌++◌, ℕ, drop}
use Rattle.ii_base.specs.declared.doc_id.TheConstants.{TERMINATED}
use Rattle.ii_query_parser.specs.Queries.{trees_of}
use Rattle.ii_ranking.specs.Scores.{scored_in}
use Rattle.ii_scorer.specs.Combinations.{add}
use Rattle.ii_prepared_term.specs.PreparedQueries.{bound_under, lists_under}
use Rattle.ii_prepared_term.specs.QueryBounds.{trees_bound}
use Rattle.ii_prepared_term.specs.QueryDocs.{lists_docs, trees_docs}
use Rattle.ii_prepared_term.proofs.PreparedQueryLemmas.{IsPreparing}
use Rattle.ii_prepared_term.proofs.preparing.+prepare.Given as goal

abbrev pub invariant-prepare_each-loop-query : goal.invariant-prepare_each-loop-query
invariant-prepare_each-loop-query g l = record {
  preparing : IsPreparing (scored_in l.index (g.S.Bm25StatisticsProvider.statistics l.statistics)) l.index l.queries.items (drop l.query-index l.queries.items) l.parts.items;
  bounds : (doc : ℕ) → doc < TERMINATED → add (bound_under l.parts.items doc) (trees_bound (scored_in l.index (g.S.Bm25StatisticsProvider.statistics l.statistics)) (trees_of (drop l.query-index l.queries.items)) doc) ≡ trees_bound (scored_in l.index (g.S.Bm25StatisticsProvider.statistics l.statistics)) (trees_of l.queries.items) doc;
  lists : lists_docs (lists_under l.parts.items) ++ trees_docs l.index (trees_of (drop l.query-index l.queries.items)) ≡ trees_docs l.index (trees_of l.queries.items);
}
