use Rattle.std.proofs.Common.{◌≡◌, drop, map}
use Rattle.ii_statistics.specs.Statistics.{counts_view, tokens_of}
use Rattle.ii_statistics.proofs.statistics.QueryStatisticsBm25StatisticsProvider.total_num_tokens.Given as goal

abbrev pub invariant-loop-place : goal.invariant-loop-place
invariant-loop-place l = tokens_of (drop l.place (map counts_view l.self.terms.items)) l.field ≡ tokens_of (map counts_view l.self.terms.items) l.field
