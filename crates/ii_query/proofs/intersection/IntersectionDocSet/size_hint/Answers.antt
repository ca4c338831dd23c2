use Rattle.std.proofs.Common.{◌≤◌, arith, length, rules}
use Rattle.ii_docset.specs.Intersection.{has_doc}
use Rattle.ii_query.specs.Combined.{common}
use Rattle.ii_query.proofs.HintLemmas.{picked_short}
use Rattle.ii_query.proofs.intersection.IntersectionDocSet.size_hint.Goals as goal

pub returns-clause-enough : goal.returns-clause-enough
returns-clause-enough g c =
    let few : length (common (g.A.DocSet.rest c.args.self.now.first) (g.B.DocSet.rest c.args.self.now.other)) ≤ length (g.A.DocSet.rest c.args.self.now.first) = picked_short (has_doc (g.B.DocSet.rest c.args.self.now.other)) (g.A.DocSet.rest c.args.self.now.first) in
    let first : length (g.A.DocSet.rest c.args.self.now.first) ≤ c.size_hint.result = search rules in
    omega (arith, few, first)
