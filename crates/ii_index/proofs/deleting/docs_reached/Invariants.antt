use Rattle.std.proofs.Common.{drop}
use Rattle.ii_index.proofs.ReachLemmas.{IsReaching}
use Rattle.ii_index.proofs.deleting.docs_reached.Given as goal

-- the documents of the deletes before the index were found
abbrev pub invariant-loop-delete : goal.invariant-loop-delete
invariant-loop-delete l = IsReaching l.fn.scope l.fn.index l.deletes (drop l.delete-index l.deletes) l.docs.items
