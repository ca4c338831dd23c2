use Rattle.std.proofs.Common.{drop}
use Rattle.ii_ranking.specs.Scores.{scored_in}
use Rattle.ii_ranking.proofs.OpeningLemmas.{IsOpening}
use Rattle.ii_ranking.proofs.opening.+open_scorer.Given as goal

abbrev pub invariant-open_each-loop-query : goal.invariant-open_each-loop-query
invariant-open_each-loop-query g l = record { opening : IsOpening (scored_in l.index (g.S.Bm25StatisticsProvider.statistics l.statistics)) l.index l.queries.items (drop l.query-index l.queries.items) l.scorers.items }
