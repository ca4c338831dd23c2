use Rattle.ii_snippet.proofs.FragmentLemmas.{next_added}
use Rattle.ii_snippet.proofs.fragments.pieces_of.Goals as goal

pub loop-token-preserved : goal.loop-token-preserved
loop-token-preserved c = next_added _ _ c.args.text.now c.loop-token.from c.in_ok-from.from _ c.args.tokens.now c.loop-token.token-index _ _ c.loop-token-test.true c.in_ok-from.ensures.pieces c.in_ok-from.ensures.next c.loop-token.invariant
