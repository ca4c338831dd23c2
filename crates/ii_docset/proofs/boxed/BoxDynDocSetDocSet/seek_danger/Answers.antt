use Rattle.std.proofs.Common.{ap, ◌∙◌}
use Rattle.ii_docset.specs.Cursor.{from_doc}
use Rattle.ii_docset.proofs.boxed.BoxDynDocSetDocSet.seek_danger.Goals as goal

pub returns-clause-rest : goal.returns-clause-rest
returns-clause-rest g c = λ low. c.seek_danger.ensures.1.0 low ∙ ap (λ x. from_doc c.args.target ((g.dyn-1.0.entry x.0).1.rest x.1)) c.deref_box_mut-1.ensures.value.1

pub returns-clause-at_end : goal.returns-clause-at_end
returns-clause-at_end g c = λ end. c.seek_danger.ensures.1.1.0 end ∙ ap (λ x. (g.dyn-1.0.entry x.0).1.rest x.1) c.deref_box_mut-1.ensures.value.1

pub returns-clause-kind : goal.returns-clause-kind
returns-clause-kind g c = c.seek_danger.ensures.1.1.1.1.0 ∙ ap (λ x. (g.dyn-1.0.entry x.0).1.always_one x.1) c.deref_box_mut-1.ensures.value.1
