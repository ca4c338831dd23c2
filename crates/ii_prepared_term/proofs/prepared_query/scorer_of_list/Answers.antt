use Rattle.std.proofs.Common.{◌≡◌, ◌∙◌, ℕ, ap}
use Rattle.ii_scorer.proofs.BoundLemmas.{row_bound_at}
use Rattle.ii_ranking.proofs.LeafLemmas.{leaf_is}
use Rattle.ii_prepared_term.specs.ScoredLists.{ScoredListState, listed_score}
use Rattle.ii_prepared_term.proofs.prepared_query.scorer_of_list.Goals as goal

pub returns-clause-scores : goal.returns-clause-scores
returns-clause-scores c = λ doc.
    let same : (d : ℕ) → listed_score c.scorer.result d ≡ listed_score c.args.list.now d = λ d. ap (λ (s : ScoredListState). listed_score s d) c.scorer.ensures.same in
    c.one.ensures.scores doc ∙ leaf_is (listed_score c.scorer.result) (listed_score c.args.list.now) c.scorer.result.most same (λ d end. same d ∙ c.scorer.ensures.ends d end) doc

pub returns-clause-bounds : goal.returns-clause-bounds
returns-clause-bounds c = λ doc low. c.one.ensures.bounds doc low ∙ row_bound_at (λ (d : ℕ). c.scorer.result.most) doc low ∙ ap (λ (s : ScoredListState). s.most) c.scorer.ensures.same
