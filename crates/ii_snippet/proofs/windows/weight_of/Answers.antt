use Rattle.std.proofs.Common.{arith}
use Rattle.ii_snippet.proofs.WindowLemmas.{counted, weighs_little}
use Rattle.ii_snippet.proofs.windows.weight_of.Goals as goal

pub overflow_add-weight : goal.overflow_add-weight
overflow_add-weight c =
    let more = counted c.args.tokens.now c.loop-place.place _ _ _ c.loop-place-test.true c.loop-place.invariant c.share-weight.ensures in
    omega (arith, more, weighs_little c.args.tokens.now, c.requires.few)

pub loop-place-preserved : goal.loop-place-preserved
loop-place-preserved c = counted c.args.tokens.now c.loop-place.place _ _ _ c.loop-place-test.true c.loop-place.invariant c.share-weight.ensures
