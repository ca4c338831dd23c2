use Rattle.std.proofs.Common.{◌≡◌, ◌+◌, map, take}
use Rattle.ii_ranking.specs.Segments.{segment_of}
use Rattle.ii_segment_search.specs.Searcher.{total_living}
use Rattle.ii_explanation.proofs.segments.explain_segments.Given as goal

abbrev pub invariant-loop-place : goal.invariant-loop-place
invariant-loop-place g l = l.fn.number ≡ total_living (take l.place (map segment_of l.segments)) + l.left
