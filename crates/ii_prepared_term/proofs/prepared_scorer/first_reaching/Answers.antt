use Rattle.std.proofs.Common.{List, subst}
use Rattle.ii_block_shares.specs.BlockShares.{IsFirstReaching, MayReach, bound_at}
use Rattle.ii_block_shares.specs.declared.block_shares.BlockShare.{BlockShare}
use Rattle.ii_bm25.specs.Bm25.{Bm25State}
use Rattle.ii_prepared_term.proofs.PreparedLemmas.{reaches_bound}
use Rattle.ii_prepared_term.proofs.prepared_scorer.first_reaching.Goals as goal

pub returns-clause-first : goal.returns-clause-first
returns-clause-first c =
    subst (λ (weight : Bm25State). IsFirstReaching c.args.term.now.shares weight.weight c.args.least c.args.target c.first_reaching.result) c.weight.ensures
    (subst (λ (runs : List BlockShare). IsFirstReaching runs c.weight.result.now.weight c.args.least c.args.target c.first_reaching.result) c.requires.shares c.first_reaching.ensures.first)

pub returns-clause-reaches : goal.returns-clause-reaches
returns-clause-reaches c = λ low.
    let t = c.args.term.now in
    let here = c.first_reaching.result in
    reaches_bound t.by.weight.weight c.args.least (bound_at t.shares here)
    (subst (λ (weight : Bm25State). MayReach weight.weight c.args.least (bound_at t.shares here)) c.weight.ensures
    (subst (λ (runs : List BlockShare). MayReach c.weight.result.now.weight c.args.least (bound_at runs here)) c.requires.shares (c.first_reaching.ensures.reaches low)))
