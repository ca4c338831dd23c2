use Rattle.std.proofs.Common.{◌≡◌, ◌++◌, drop, map}
use Rattle.ii_ranking.specs.Segments.{segment_of}
use Rattle.nequllpa_searching.specs.OpenedNumbers.{open_segment}
use Rattle.nequllpa_searching.proofs.ranking.sources_of.Given as goal

abbrev pub invariant-loop-place : goal.invariant-loop-place
invariant-loop-place l = map segment_of l.sources.items ++ map open_segment (drop l.place l.segments) ≡ map open_segment l.segments
