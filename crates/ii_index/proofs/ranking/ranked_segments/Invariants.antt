use Rattle.std.proofs.Common.{◌≡◌, ◌++◌, drop, map}
use Rattle.ii_ranking.specs.Segments.{segment_of}
use Rattle.ii_index.proofs.ranking.ranked_segments.Given as goal

abbrev pub invariant-loop-place : goal.invariant-loop-place
invariant-loop-place l = map segment_of l.ranked.items ++ drop l.place l.segments ≡ l.segments
