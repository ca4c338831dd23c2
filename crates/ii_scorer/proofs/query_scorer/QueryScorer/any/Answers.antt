use Rattle.std.proofs.Common.{◌∙◌, ℕ, refl}
use Rattle.ii_scorer.specs.Combinations.{any_of}
use Rattle.ii_scorer.specs.QueryScorers.{score_by_parts}
use Rattle.ii_scorer.specs.Scorers.{bound_over, scores_at}
use Rattle.ii_scorer.specs.declared.query_scorer.ScorerParts.TheVariants.{Any}
use Rattle.ii_scorer.proofs.OrderLemmas.{any_in_order, bounded_in_order}
use Rattle.ii_scorer.proofs.BoundLemmas.{bound_in_order, row_bound_at}
use Rattle.ii_scorer.proofs.PartsLemmas.{any_ends, row_is}
use Rattle.ii_scorer.proofs.query_scorer.QueryScorer.any.Goals as goal

pub returns-clause-scores : goal.returns-clause-scores
returns-clause-scores g c =
    let ss = c.args.scorers.items in
    let sorted = c.sort_unstable_by_key.new.self.items in
    let same = c.sort_unstable_by_key.ensures.permutation in
    let all = c.sum_of_most-most.ensures.0 in
    row_is (score_by_parts g.T.Scorer.state (Any c.sort_unstable_by_key.new.self c.in-Ok.sums)) (λ (d : ℕ). any_of (scores_at ss d))
    (λ d. any_in_order ss sorted d same all) (λ d end. any_ends ss d end (bounded_in_order ss sorted same all))

pub returns-clause-bounds : goal.returns-clause-bounds
returns-clause-bounds g c = λ doc low. row_bound_at (bound_over c.sort_unstable_by_key.new.self.items) doc low ∙ bound_in_order c.args.scorers.items c.sort_unstable_by_key.new.self.items doc c.sort_unstable_by_key.ensures.permutation

pub returns-clause-lists : goal.returns-clause-lists
returns-clause-lists g c = record { order = c.sort_unstable_by_key.new.self.items; same = c.sort_unstable_by_key.ensures.permutation; are = refl }
