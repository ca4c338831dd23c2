use Rattle.std.proofs.Common.{drop}
use Rattle.std.specs.List.{AllByRecursion}
use Rattle.ii_query.specs.QueryCursor.{cursors_under, rests}
use Rattle.ii_search.specs.Decodes.{EachDecodesFew}
use Rattle.ii_search.proofs.QueryLemmas.{IsFinding}
use Rattle.ii_search.proofs.searching.+find.Given as goal

abbrev pub invariant-find_each-loop-query : goal.invariant-find_each-loop-query
invariant-find_each-loop-query l = record {
  finding : IsFinding l.index l.queries.items (drop l.query-index l.queries.items) (rests l.cursors.items);
  lazy : AllByRecursion EachDecodesFew (cursors_under l.cursors.items);
}
