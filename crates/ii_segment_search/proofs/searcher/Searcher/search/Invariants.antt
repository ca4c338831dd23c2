use Rattle.std.specs.List.{flat_map}
use Rattle.ii_segment_search.specs.Searcher.{living_rest}
use Rattle.ii_segment_search.proofs.SearchLemmas.{IsSearched}
use Rattle.ii_segment_search.proofs.searcher.Searcher.search.Given as goal

abbrev pub invariant-loop-place : goal.invariant-loop-place
invariant-loop-place l = IsSearched l.query l.self-inside.segments.items l.place l.base (flat_map living_rest l.cursors.items)
