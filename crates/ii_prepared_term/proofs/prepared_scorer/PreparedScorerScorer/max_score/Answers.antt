use Rattle.std.proofs.Common.{◌<◌, ◌≤◌, ◌^◌, ℕ, rules, subst}
use Rattle.ii_bm25.specs.Bm25.{Bm25State, bm25_score}
use Rattle.ii_prepared_term.specs.PreparedScorers.{PreparedScorerState}
use Rattle.ii_prepared_term.proofs.PreparedLemmas.{prepared_bounded}
use Rattle.ii_prepared_term.proofs.prepared_scorer.PreparedScorerScorer.max_score.Goals as goal

pub returns-clause-bounded : goal.returns-clause-bounded
returns-clause-bounded c =
    rw (← c.self.view_is) (let s : PreparedScorerState = record { term = c.self.inside.term.now; cursor = c.self.inside.cursor } in
    let few : c.max_score.result < 2 ^ 64 = search rules in
    prepared_bounded s c.max_score.result (search rules) few (subst (λ (weight : Bm25State). (id count : ℕ) → bm25_score weight id count ≤ c.max_score.result) c.weight.ensures c.max_score.ensures.bounds))
