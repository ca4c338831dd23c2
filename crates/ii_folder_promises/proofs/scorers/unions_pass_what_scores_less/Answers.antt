use Rattle.std.proofs.Common.{◌≡◌, ◌∙◌, ℕ, List, [], ◌∷◌, Option, Some, ap, arith, inl, rules, subst}
use Rattle.ii_scorer.specs.Combinations.{any_of}
use Rattle.ii_scorer.specs.Scorers.{IsBelow, ScorerState, scores_at}
use Rattle.ii_folder_promises.proofs.scorers.unions_pass_what_scores_less.Goals as goal

pub returns : goal.returns
returns g c = λ doc a b low one two.
    let items : c.push-2.new.self.items ≡ c.args.first ∷ c.args.other ∷ [] = search rules in
    let both = c.in-Ok.ensures.scores doc ∙ ap (λ (ss : List ScorerState). any_of (scores_at ss doc)) items ∙ (λ j. any_of (one j ∷ two j ∷ [])) in
    subst (IsBelow c.args.least) both (c.seek_with_score.ensures.next.passed doc (omega arith) (inl low))
