use Rattle.std.proofs.Common.{◌≡◌, drop}
use Rattle.ii_ranking.specs.Statistics.{doc_freq_in}
use Rattle.ii_ranking.proofs.statistics.GatheredStatisticsBm25StatisticsProvider.doc_freq.Given as goal

abbrev pub invariant-loop-place : goal.invariant-loop-place
invariant-loop-place l = record { left : doc_freq_in (drop l.place l.self.terms.items) l.term.field l.term.value ≡ doc_freq_in l.self.terms.items l.term.field l.term.value }
