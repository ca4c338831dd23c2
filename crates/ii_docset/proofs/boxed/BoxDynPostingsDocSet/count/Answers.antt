use Rattle.std.proofs.Common.{ap, subst, sym, refl, ◌∙◌}
use Rattle.ii_docset.specs.Alive.{IsCovered, alive_in}
use Rattle.ii_docset.proofs.BoxLemmas.{held}
use Rattle.ii_docset.proofs.boxed.BoxDynPostingsDocSet.count.Goals as goal

pub count-requires : goal.count-requires
count-requires g c = λ κs. (refl, (λ within. (tt, (held within, subst (λ x. IsCovered c.args.alive_bitset.now ((g.dyn-1.0.entry x.0).1.DocSet.rest x.1)) (sym c.deref_box_mut-1.ensures.value.1) c.requires))))

pub returns-clause-count : goal.returns-clause-count
returns-clause-count g c = c.count.ensures.0 ∙ ap (λ x. alive_in c.args.alive_bitset.now ((g.dyn-1.0.entry x.0).1.DocSet.rest x.1)) c.deref_box_mut-1.ensures.value.1

pub returns-clause-kind : goal.returns-clause-kind
returns-clause-kind g c = c.count.ensures.1.1.0 ∙ ap (λ x. (g.dyn-1.0.entry x.0).1.DocSet.always_one x.1) c.deref_box_mut-1.ensures.value.1
