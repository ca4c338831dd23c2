use Rattle.ii_segment_search.proofs.SearchLemmas.{AreFewSoFar}
use Rattle.ii_segment_search.proofs.searcher.have_numbers.Given as goal

abbrev pub invariant-loop-place : goal.invariant-loop-place
invariant-loop-place l = AreFewSoFar l.segments.items l.place l.total
