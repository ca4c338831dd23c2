use Rattle.std.proofs.Common.{◌≡◌, ◌&&◌, drop, map}
use Rattle.ii_query_parser.specs.Queries.{trees_of}
use Rattle.ii_ranking.specs.Scores.{scored_in}
use Rattle.ii_ranking.specs.Shares.{all_have_shares, share_of}
use Rattle.ii_ranking.proofs.GatherLemmas.{IsGathering}
use Rattle.ii_ranking.proofs.shares.+add_shares.Given as goal

abbrev pub invariant-add_any-loop-query : goal.invariant-add_any-loop-query
invariant-add_any-loop-query g l = record { gathering : IsGathering (scored_in l.index (g.S.Bm25StatisticsProvider.statistics l.statistics)) l.index l.queries.items (drop l.query-index l.queries.items) l.doc (map share_of l.initial.shares.items) (map share_of l.shares.items) }

abbrev pub invariant-add_each-loop-query : goal.invariant-add_each-loop-query
invariant-add_each-loop-query g l = record {
  gathering : IsGathering (scored_in l.index (g.S.Bm25StatisticsProvider.statistics l.statistics)) l.index l.queries.items (drop l.query-index l.queries.items) l.doc (map share_of l.initial.shares.items) (map share_of l.shares.items);
  each : (l.each_matches && all_have_shares (scored_in l.index (g.S.Bm25StatisticsProvider.statistics l.statistics)) (trees_of (drop l.query-index l.queries.items)) l.doc)
      ≡ all_have_shares (scored_in l.index (g.S.Bm25StatisticsProvider.statistics l.statistics)) (trees_of l.queries.items) l.doc;
}
