use Rattle.std.proofs.Common.{◌≡◌, drop, map}
use Rattle.ii_statistics.specs.Statistics.{counts_view, freq_of}
use Rattle.ii_statistics.proofs.statistics.QueryStatisticsBm25StatisticsProvider.doc_freq.Given as goal

abbrev pub invariant-loop-place : goal.invariant-loop-place
invariant-loop-place l = freq_of (drop l.place (map counts_view l.self.terms.items)) l.term.field l.term.value ≡ freq_of (map counts_view l.self.terms.items) l.term.field l.term.value
