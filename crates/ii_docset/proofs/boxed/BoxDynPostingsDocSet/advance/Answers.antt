use Rattle.std.proofs.Common.{drop, ap, ◌∙◌}
use Rattle.ii_docset.proofs.boxed.BoxDynPostingsDocSet.advance.Goals as goal

pub returns-clause-rest : goal.returns-clause-rest
returns-clause-rest g c = c.advance.ensures.1.0 ∙ ap (λ x. drop 1 ((g.dyn-1.0.entry x.0).1.DocSet.rest x.1)) c.deref_box_mut-1.ensures.value.1

pub returns-clause-kind : goal.returns-clause-kind
returns-clause-kind g c = c.advance.ensures.1.1.1.0 ∙ ap (λ x. (g.dyn-1.0.entry x.0).1.DocSet.always_one x.1) c.deref_box_mut-1.ensures.value.1
