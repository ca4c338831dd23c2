use Rattle.ii_index.proofs.TotalsLemmas.{summing_next}
use Rattle.ii_index.proofs.totals.sum_of_tokens.Goals as goal

pub loop-place-preserved : goal.loop-place-preserved
loop-place-preserved c =
    summing_next c.args.totals.now c.loop-place.place c.index-totals-place.result c.loop-place-test.true c.index-totals-place.is c.args.field c.loop-place.sum c.tokens_in.result c.saturating_add-sum.result c.tokens_in.ensures c.saturating_add-sum.ensures
    c.loop-place.invariant
