use Rattle.std.proofs.Common.{◌≡◌, ◌∙◌, ◌++◌, ℕ, ap, rules}
use Rattle.ii_scorer.specs.Combinations.{unless}
use Rattle.ii_scorer.specs.QueryScorers.{score_by_parts}
use Rattle.ii_scorer.specs.Scorers.{ScorerState, doc_bound, score_of}
use Rattle.ii_scorer.specs.declared.query_scorer.ScorerParts.TheVariants.{Without}
use Rattle.ii_scorer.proofs.BoundLemmas.{row_bound_at}
use Rattle.ii_scorer.proofs.PartsLemmas.{row_is, unless_ends}
use Rattle.ii_scorer.proofs.query_scorer.QueryScorer.without.Goals as goal

pub returns-clause-scores : goal.returns-clause-scores
returns-clause-scores g c =
    let first : c.in_ok-first.first.value ≡ c.args.first = search rules in
    let other : c.in_ok-other.other.value ≡ c.args.other = search rules in
    row_is (score_by_parts g.T.Scorer.state (Without c.in_ok-first.first c.in_ok-other.other)) (λ (d : ℕ). unless (score_of c.args.first d) (score_of c.args.other d))
    (λ d. (λ j. unless (score_of (first j) d) (score_of (other j) d)))
    (λ d end. unless_ends (score_of c.args.first d) (score_of c.args.other d) (c.bound-most.ensures.bounded.ends d end))

pub returns-clause-bounds : goal.returns-clause-bounds
returns-clause-bounds g c = λ doc low.
    let first : c.in_ok-first.first.value ≡ c.args.first = search rules in
    row_bound_at (doc_bound c.in_ok-first.first.value) doc low ∙ ap (λ (s : ScorerState). doc_bound s doc) first

pub returns-clause-lists : goal.returns-clause-lists
returns-clause-lists g c =
    let first : c.in_ok-first.first.value ≡ c.args.first = search rules in
    let other : c.in_ok-other.other.value ≡ c.args.other = search rules in
    λ j. (first j).lists ++ (other j).lists
