use Rattle.ii_index.proofs.ReachLemmas.{AreDeleting}
use Rattle.ii_index.proofs.deleting.docs_to_delete.Given as goal

abbrev pub invariant-loop-segment : goal.invariant-loop-segment
invariant-loop-segment l = AreDeleting l.schema l.deletes l.fn.segments.items l.yielded l.segment-iterator.rest.items l.all.items
