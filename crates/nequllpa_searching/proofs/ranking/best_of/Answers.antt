use Rattle.std.proofs.Common.{ℕ, List, map, subst, sym}
use Rattle.std.specs.List.{All, Contains}
use Rattle.ii_ranking.specs.Segments.{segment_of, segments_scored}
use Rattle.ii_statistics.specs.Statistics.{query_statistics}
use Rattle.nequllpa_searching.proofs.RankingLemmas.{best_scored}
use Rattle.nequllpa_searching.proofs.ranking.best_of.Goals as goal

pub explanations-requires-clause-scored : goal.explanations-requires-clause-scored
explanations-requires-clause-scored c =
    let scored = segments_scored (query_statistics c.args.statistics.now) c.args.query.now 0 (map segment_of c.args.segments.now) in
    subst (λ (row : List (ℕ × ℕ)). All (Contains scored) row) (sym c.deref.ensures.value) (best_scored c.with_limit-limit.result scored c.in_ok-docs.docs.items c.in_ok-docs.ensures.best)
