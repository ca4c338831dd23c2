use Rattle.std.proofs.Common.{List, [], ◌∷◌, refl, subst}
use Rattle.ii_block_shares.specs.BlockShares.{IsRunBound}
use Rattle.ii_block_shares.specs.declared.block_shares.BlockShare.{BlockShare}
use Rattle.ii_bm25.specs.Bm25.{Bm25State}
use Rattle.ii_prepared_term.specs.PreparedScorers.{PreparedScorerState, prepared_list}
use Rattle.ii_prepared_term.proofs.PreparedLemmas.{run_bound, run_within}
use Rattle.ii_scorer.proofs.BlockListLaws.{all_none}
use Rattle.ii_prepared_term.proofs.prepared_scorer.PreparedScorerScorer.max_score_until.Goals as goal

pub returns-clause-bound : goal.returns-clause-bound
returns-clause-bound c =
    rw (← c.self.view_is) (let s : PreparedScorerState = record { term = c.self.inside.term.now; cursor = c.self.inside.cursor } in
    run_bound s c.args.target c.bound_from-bound.result _ c.self.invariant.1.prepared
    (subst (λ (weight : Bm25State). IsRunBound s.term.shares weight.weight c.args.target c.bound_from-bound.result) c.weight.ensures
    (subst (λ (runs : List BlockShare). IsRunBound runs c.weight.result.now.weight c.args.target c.bound_from-bound.result) c.self.invariant.0 c.bound_from-bound.ensures.bound)) refl refl)

pub returns-clause-within : goal.returns-clause-within
returns-clause-within c =
    rw (← c.self.view_is) (let s : PreparedScorerState = record { term = c.self.inside.term.now; cursor = c.self.inside.cursor } in
    run_within s c.args.target c.bound_from-bound.result _
    (subst (λ (weight : Bm25State). IsRunBound s.term.shares weight.weight c.args.target c.bound_from-bound.result) c.weight.ensures
    (subst (λ (runs : List BlockShare). IsRunBound runs c.weight.result.now.weight c.args.target c.bound_from-bound.result) c.self.invariant.0 c.bound_from-bound.ensures.bound)) refl refl)

pub returns-clause-work : goal.returns-clause-work
returns-clause-work c =
    rw (← c.self.view_is) (let s : PreparedScorerState = record { term = c.self.inside.term.now; cursor = c.self.inside.cursor } in
    all_none _ (prepared_list s ∷ []))
