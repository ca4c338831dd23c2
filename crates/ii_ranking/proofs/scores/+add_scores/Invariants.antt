use Rattle.std.proofs.Common.{drop, length}
use Rattle.ii_ranking.specs.Scores.{scored_in}
use Rattle.ii_ranking.proofs.QueryScoreLemmas.{IsAddingAny, IsAddingEach}
use Rattle.ii_ranking.proofs.scores.+add_scores.Given as goal

abbrev pub invariant-add_any-loop-query : goal.invariant-add_any-loop-query
invariant-add_any-loop-query g l = record { adding : IsAddingAny (scored_in l.index (g.S.Bm25StatisticsProvider.statistics l.statistics)) l.index l.queries.items (drop l.query-index l.queries.items) l.initial.scores.items l.scores.items }

abbrev pub invariant-add_each-loop-query : goal.invariant-add_each-loop-query
invariant-add_each-loop-query g l = record { adding : IsAddingEach (scored_in l.index (g.S.Bm25StatisticsProvider.statistics l.statistics)) l.index l.queries.items (drop l.query-index l.queries.items) l.is_first (length l.fn.scores.items) l.all.items }
