use Rattle.std.proofs.Common.{◌≤◌, length, subst}
use Rattle.ii_docset.proofs.boxed.BoxDynPostingsDocSet.cost.Goals as goal

pub returns-clause-hint : goal.returns-clause-hint
returns-clause-hint g c = subst (λ x. (g.dyn-1.0.entry x.0).1.DocSet.hints x.1 c.cost.result) c.deref_box-1.ensures.1 c.cost.ensures.0

pub returns-clause-enough : goal.returns-clause-enough
returns-clause-enough g c = subst (λ x. length ((g.dyn-1.0.entry x.0).1.DocSet.rest x.1) ≤ c.cost.result) c.deref_box-1.ensures.1 c.cost.ensures.1
