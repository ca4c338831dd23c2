use Rattle.std.proofs.Common.{drop, map}
use Rattle.ii_ranking.specs.Segments.{segment_of}
use Rattle.ii_ranking.proofs.SegmentLemmas.{IsRanking}
use Rattle.ii_prepared_term.specs.PreparedSegments.{prepared_living, prepared_scored}
use Rattle.ii_prepared_term.proofs.prepared_segments.PreparedSegments.open.Given as goal

abbrev pub invariant-loop-place : goal.invariant-loop-place
invariant-loop-place g l = IsRanking (g.S.Bm25StatisticsProvider.statistics l.statistics) l.query (map segment_of l.segments) (drop l.place (map segment_of l.segments)) (prepared_living l.prepared.items) (prepared_scored 0 l.prepared.items)
