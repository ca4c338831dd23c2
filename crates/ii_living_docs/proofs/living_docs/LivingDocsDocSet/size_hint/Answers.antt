use Rattle.std.proofs.Common.{◌≤◌, arith, length, rules}
use Rattle.ii_living_docs.proofs.LivingLemmas.{living_short}
use Rattle.ii_living_docs.proofs.living_docs.LivingDocsDocSet.size_hint.Goals as goal

pub returns-clause-enough : goal.returns-clause-enough
returns-clause-enough g c =
    let s = c.args.self.now in
    let few = living_short s.base s.alive (g.D.DocSet.rest s.inner) in
    let inner : length (g.D.DocSet.rest s.inner) ≤ c.size_hint.result = search rules in
    omega (arith, few, inner)
