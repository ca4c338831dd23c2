use Rattle.std.proofs.Common.{ap, subst, sym, refl, ◌∙◌}
use Rattle.ii_docset.specs.Cursor.{IsTarget, from_doc}
use Rattle.ii_docset.proofs.BoxLemmas.{held}
use Rattle.ii_docset.proofs.boxed.BoxDynPostingsDocSet.seek.Goals as goal

pub seek-requires : goal.seek-requires
seek-requires g c = λ κs. (refl, (λ within. (tt, (held within, subst (λ x. IsTarget c.args.target ((g.dyn-1.0.entry x.0).1.DocSet.rest x.1)) (sym c.deref_box_mut-1.ensures.value.1) c.requires))))

pub returns-clause-rest : goal.returns-clause-rest
returns-clause-rest g c = c.seek.ensures.1.0 ∙ ap (λ x. from_doc c.args.target ((g.dyn-1.0.entry x.0).1.DocSet.rest x.1)) c.deref_box_mut-1.ensures.value.1

pub returns-clause-kind : goal.returns-clause-kind
returns-clause-kind g c = c.seek.ensures.1.1.1.0 ∙ ap (λ x. (g.dyn-1.0.entry x.0).1.DocSet.always_one x.1) c.deref_box_mut-1.ensures.value.1
