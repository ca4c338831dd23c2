use Rattle.std.proofs.Common.{◌≤◌, ℕ, arith, length, rules}
use Rattle.std.specs.Prelude.{not}
use Rattle.ii_docset.specs.Intersection.{has_doc}
use Rattle.ii_query.specs.Combined.{without}
use Rattle.ii_query.proofs.HintLemmas.{picked_short}
use Rattle.ii_query.proofs.exclude.ExcludeDocSet.cost.Goals as goal

pub returns-clause-enough : goal.returns-clause-enough
returns-clause-enough g c =
    let few : length (without (g.A.DocSet.rest c.args.self.now.first) (g.B.DocSet.rest c.args.self.now.other)) ≤ length (g.A.DocSet.rest c.args.self.now.first) = picked_short (λ (d : ℕ). not (has_doc (g.B.DocSet.rest c.args.self.now.other) d)) (g.A.DocSet.rest c.args.self.now.first) in
    let first : length (g.A.DocSet.rest c.args.self.now.first) ≤ c.cost.result = search rules in
    omega (arith, few, first)
