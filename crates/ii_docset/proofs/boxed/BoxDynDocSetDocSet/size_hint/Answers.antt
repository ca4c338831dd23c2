use Rattle.std.proofs.Common.{◌≤◌, length, subst}
use Rattle.ii_docset.proofs.boxed.BoxDynDocSetDocSet.size_hint.Goals as goal

pub returns-clause-hint : goal.returns-clause-hint
returns-clause-hint g c = subst (λ x. (g.dyn-1.0.entry x.0).1.hints x.1 c.size_hint.result) c.deref_box-1.ensures.1 c.size_hint.ensures.0

pub returns-clause-enough : goal.returns-clause-enough
returns-clause-enough g c = subst (λ x. length ((g.dyn-1.0.entry x.0).1.rest x.1) ≤ c.size_hint.result) c.deref_box-1.ensures.1 c.size_hint.ensures.1
