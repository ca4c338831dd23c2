use Rattle.std.proofs.Common.{drop}
use Rattle.nequllpa_opening.proofs.OpenLemmas.{AreFewer}
use Rattle.nequllpa_opening.proofs.opened_index.most_docs.Given as goal

-- the segments before the index have no more documents
abbrev pub invariant-loop-segment : goal.invariant-loop-segment
invariant-loop-segment l = AreFewer l.segments.items l.most (drop l.segment-index l.segments.items)
