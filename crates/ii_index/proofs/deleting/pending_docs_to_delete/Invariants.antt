use Rattle.ii_index.proofs.ReachLemmas.{ArePendingDeleting}
use Rattle.ii_index.proofs.deleting.pending_docs_to_delete.Given as goal

abbrev pub invariant-loop-segment : goal.invariant-loop-segment
invariant-loop-segment l = ArePendingDeleting l.schema l.deletes l.fn.segments.items l.yielded l.segment-iterator.rest.items l.base l.all.items
