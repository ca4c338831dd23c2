use Rattle.std.proofs.Common.{ap, subst, ◌∙◌}
use Rattle.ii_docset.specs.Cursor.{doc_at, IsSound}
use Rattle.ii_docset.proofs.boxed.BoxDynDocSetDocSet.doc.Goals as goal

pub returns-clause-doc : goal.returns-clause-doc
returns-clause-doc g c = c.doc.ensures.0 ∙ ap (λ x. doc_at ((g.dyn-1.0.entry x.0).1.rest x.1)) c.deref_box-1.ensures.1

pub returns-clause-sound : goal.returns-clause-sound
returns-clause-sound g c = subst (λ x. IsSound ((g.dyn-1.0.entry x.0).1.rest x.1)) c.deref_box-1.ensures.1 c.doc.ensures.1
