use Rattle.std.proofs.Common.{◌≡◌, ◌+◌, ◌-◌, ◌^◌, drop, map, min}
use Rattle.ii_ranking.specs.Segments.{segment_of}
use Rattle.ii_ranking.proofs.SegmentLemmas.{KeepsRanking}
use Rattle.ii_ranking.proofs.segments.search_segments.Given as goal

abbrev pub invariant-loop-place : goal.invariant-loop-place
invariant-loop-place g l = record {
  ranking : KeepsRanking (g.S.Bm25StatisticsProvider.statistics l.statistics) l.query (map segment_of l.segments) (drop l.place (map segment_of l.segments)) l.base l.computer;
  wanted : l.computer.top_n ≡ min (2 ^ 64 - 1) (l.docs.offset + l.docs.limit);
}
