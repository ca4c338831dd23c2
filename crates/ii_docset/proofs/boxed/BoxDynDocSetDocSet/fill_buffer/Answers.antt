use Rattle.std.proofs.Common.{◌++◌, length, take, drop, min, ap, ◌∙◌}
use Rattle.ii_base.specs.Entries.{docs_of}
use Rattle.ii_docset.proofs.boxed.BoxDynDocSetDocSet.fill_buffer.Goals as goal

pub returns-clause-count : goal.returns-clause-count
returns-clause-count g c = c.fill_buffer.ensures.0 ∙ ap (λ x. min 64 (length ((g.dyn-1.0.entry x.0).1.rest x.1))) c.deref_box_mut-1.ensures.value.1

pub returns-clause-filled : goal.returns-clause-filled
returns-clause-filled g c = c.fill_buffer.ensures.1.0 ∙ ap (λ x. docs_of (take 64 ((g.dyn-1.0.entry x.0).1.rest x.1)) ++ drop (length ((g.dyn-1.0.entry x.0).1.rest x.1)) c.args.buffer.now) c.deref_box_mut-1.ensures.value.1

pub returns-clause-rest : goal.returns-clause-rest
returns-clause-rest g c = c.fill_buffer.ensures.1.1.0 ∙ ap (λ x. drop 64 ((g.dyn-1.0.entry x.0).1.rest x.1)) c.deref_box_mut-1.ensures.value.1

pub returns-clause-kind : goal.returns-clause-kind
returns-clause-kind g c = c.fill_buffer.ensures.1.1.1.1.0 ∙ ap (λ x. (g.dyn-1.0.entry x.0).1.always_one x.1) c.deref_box_mut-1.ensures.value.1
