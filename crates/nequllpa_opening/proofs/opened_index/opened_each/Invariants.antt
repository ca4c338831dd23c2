use Rattle.nequllpa_opening.specs.OpenedSegments.{OpensAs}
use Rattle.nequllpa_opening.proofs.OpenLemmas.{IsMaking}
use Rattle.nequllpa_opening.proofs.opened_index.opened_each.Given as goal

abbrev pub invariant-loop-segment : goal.invariant-loop-segment
invariant-loop-segment l = IsMaking (OpensAs l.schema) l.fn.segments.items l.yielded l.segment-iterator.rest.items l.opened.items
