use Rattle.std.proofs.Common.{◌≡◌, take}
use Rattle.ii_segment_search.specs.Searcher.{total_living}
use Rattle.ii_segment_search.proofs.searcher.Searcher.num_docs.Given as goal

abbrev pub invariant-loop-place : goal.invariant-loop-place
invariant-loop-place l = l.total ≡ total_living (take l.place l.self-inside.segments.items)
