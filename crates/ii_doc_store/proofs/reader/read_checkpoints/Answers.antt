use Rattle.std.proofs.Common.{length-drop, arith}
use Rattle.ii_doc_store.proofs.IndexLaws.{read_one}
use Rattle.ii_doc_store.specs.StoreReader.{checkpoints_in}
use Rattle.ii_doc_store.proofs.reader.read_checkpoints.Goals as goal

pub loop-preserved : goal.loop-preserved
loop-preserved c =
    let known = c.loop.invariant in
    let size = length-drop 44 c.loop.rest.now in (
      rw (c.in_ok-push.ensures.items, c.read_checkpoint.ensures, c.split_at.ensures.front, c.split_at.ensures.back)
          (read_one c.loop.checkpoints.items c.args.count c.loop.counter c.loop.rest.now (checkpoints_in c.args.count c.args.index.now) c.loop-test.true known.0),
      rw c.split_at.ensures.back (omega (arith, size, known.1, c.loop-test.true)),
    )
