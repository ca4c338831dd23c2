use Rattle.std.proofs.Common.{◌≤◌, arith, length}
use Rattle.ii_living_docs.proofs.ChainLemmas.{at_place, hints_more}
use Rattle.ii_living_docs.proofs.chain.sum_of_hints.Goals as goal

pub loop-place-preserved : goal.loop-place-preserved
loop-place-preserved g c =
    let there = at_place c.args.cursors.now.items c.loop-place.place c.index.result.now (omega (arith, c.loop-place-test.true, c.len-place-end.ensures)) c.index.ensures in
    hints_more (λ cursor hint. g.D.DocSet.hints cursor hint × (length (g.D.DocSet.rest cursor) ≤ hint)) c.args.from c.loop-place.place c.args.cursors.now.items c.index.result.now c.loop-place.sum c.size_hint.result c.saturating_add-sum.result c.loop-place.auto.place there c.loop-place.invariant (c.size_hint.ensures.hint, c.size_hint.ensures.enough)
    c.saturating_add-sum.ensures
