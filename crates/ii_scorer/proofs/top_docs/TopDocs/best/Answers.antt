use Rattle.std.proofs.Common.{◌≡◌, ◌<◌, ◌^◌, ◌∙◌, ℕ, List, ap, min, length, rules}
use Rattle.ii_scorer.proofs.TopLemmas.{best_are}
use Rattle.ii_scorer.proofs.top_docs.TopDocs.best.Goals as goal

pub returns-clause-best : goal.returns-clause-best
returns-clause-best c =
    let ranked = c.rank.new.scored.items in
    let few : length ranked < 2 ^ 64 = search rules in
    record {
      ranked = ranked;
      are_ranked = search rules;
      best_are =
          let passed : c.min-passed.result ≡ min c.args.self.now.offset (length c.truncate.new.self.items) = search rules in
          search rules ∙ best_are c.args.self.now.offset c.args.self.now.limit c.saturating_add.result c.min-passed.result ranked few (search rules) (passed ∙ ap (λ (row : List (ℕ × ℕ)). min c.args.self.now.offset (length row)) (search rules));
    }
