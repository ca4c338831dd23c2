use Rattle.std.proofs.Common.{◌≡◌, ◌+◌, drop, map}
use Rattle.ii_ranking.specs.Segments.{segment_of}
use Rattle.ii_segment_search.specs.Searcher.{total_living}
use Rattle.ii_statistics.proofs.statistics.num_living.Given as goal

abbrev pub invariant-loop-place : goal.invariant-loop-place
invariant-loop-place l = l.total + total_living (drop l.place (map segment_of l.segments)) ≡ total_living (map segment_of l.segments)
