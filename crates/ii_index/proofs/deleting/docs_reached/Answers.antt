use Rattle.ii_index.proofs.ReachLemmas.{reaching_refused}
use Rattle.ii_index.proofs.deleting.docs_reached.Goals as goal

pub returns-in-Err-clause-err : goal.returns-in-Err-clause-err
returns-in-Err-clause-err c =
    reaching_refused c.args.scope c.args.index.now c.args.deletes.now c.loop-delete.delete-index c.delete-item.result c.delete-item.result c.loop-delete.docs.items c.in-Err.fault c.loop-delete-test.true c.delete-item.is c.in-Err.ensures.err c.loop-delete.invariant
