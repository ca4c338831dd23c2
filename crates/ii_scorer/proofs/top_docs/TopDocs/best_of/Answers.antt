use Rattle.std.proofs.Common.{◌<◌, ◌-◌, ◌^◌, ℕ, IfOk, List, length, rules, subst}
use Rattle.std.specs.List.{All}
use Rattle.ii_scorer.specs.TopDocs.{AreBest, Fits}
use Rattle.ii_scorer.proofs.TopNLemmas.{best_if}
use Rattle.ii_scorer.proofs.top_docs.TopDocs.best_of.Goals as goal

pub returns-clause-best : goal.returns-clause-best
returns-clause-best c = λ scored h.
    let same = c.into_vec.ensures.kept in
    let some : length c.into_vec.result.items < 2 ^ 64 - 1 = search rules in
    let few = subst (λ (xs : List (ℕ × ℕ)). length xs < 2 ^ 64 - 1) same some in
    let fits = subst (λ (xs : List (ℕ × ℕ)). All Fits xs) same c.into_vec.ensures.fits in
    let best = subst (λ (xs : List (ℕ × ℕ)). IfOk c.best.result (λ best. AreBest c.args.self.now xs best.items)) same c.best.ensures.best in
    best_if c.args.self.now scored c.args.computer c.best.result c.requires few fits h best
