use Rattle.std.proofs.Common.{drop, map}
use Rattle.ii_ranking.specs.Segments.{segment_of}
use Rattle.ii_statistics.specs.Statistics.{counts_view}
use Rattle.ii_statistics.proofs.TermCountLemmas.{IsCounting}
use Rattle.ii_statistics.proofs.statistics.count_terms.Given as goal

abbrev pub invariant-loop-place : goal.invariant-loop-place
invariant-loop-place g l = IsCounting (g.N.FieldTokens.by_field l.tokens) (map segment_of l.segments) (map (λ t. t.now) l.terms) (drop l.place (map (λ t. t.now) l.terms)) (map counts_view l.counted.items)
