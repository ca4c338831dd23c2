use Rattle.std.proofs.Common.{subst, sym, refl, ap, ◌∙◌, ◌≡◌, OnOk}
use Rattle.ii_docset.specs.Cursor.{IsCurrent, positions_at}
use Rattle.ii_docset.proofs.BoxLemmas.{held}
use Rattle.ii_docset.proofs.boxed.BoxDynPostingsPostings.positions.Goals as goal

pub positions-requires : goal.positions-requires
positions-requires g c = λ κs. (refl, (λ within. (tt, (held within, subst (λ x. IsCurrent ((g.dyn-1.0.entry x.0).1.DocSet.rest x.1)) (sym c.deref_box_mut-1.ensures.value.1) c.requires))))

pub returns-clause-ok : goal.returns-clause-ok
returns-clause-ok g c = subst (λ x. OnOk c.positions.result (c.positions.new.output.items ≡ positions_at ((g.dyn-1.0.entry x.0).1.DocSet.rest x.1))) c.deref_box_mut-1.ensures.value.1 c.positions.ensures.0

pub returns-clause-rest : goal.returns-clause-rest
returns-clause-rest g c = c.positions.ensures.1.1.1.0 ∙ ap (λ x. (g.dyn-1.0.entry x.0).1.DocSet.rest x.1) c.deref_box_mut-1.ensures.value.1

pub returns-clause-kind : goal.returns-clause-kind
returns-clause-kind g c = c.positions.ensures.1.1.1.1.0 ∙ ap (λ x. (g.dyn-1.0.entry x.0).1.DocSet.always_one x.1) c.deref_box_mut-1.ensures.value.1
