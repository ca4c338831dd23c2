use Rattle.std.proofs.Common.{◌∙◌, arith}
use Rattle.ii_living_docs.proofs.ChainLemmas.{at_place, passed}
use Rattle.ii_living_docs.proofs.chain.next_place.Goals as goal

pub loop-place-preserved : goal.loop-place-preserved
loop-place-preserved g c =
    let there = at_place c.args.cursors.now.items c.loop-place.place c.index.result.now (omega (arith, c.loop-place-test.true, c.len-place-end.ensures)) c.index.ensures in (
      omega (arith, c.loop-place-test.true, c.len-place-end.ensures),
      passed g.D.DocSet.rest c.args.cursors.now.items c.loop-place.place c.doc.result c.index.result.now there c.doc.ensures.doc c.doc.ensures.sound (omega (arith, c.if-doc-lt-TERMINATED.false)) ∙ c.loop-place.invariant.1,
    )
