use Rattle.std.proofs.Common.{length, ap, ◌∙◌}
use Rattle.ii_docset.proofs.boxed.BoxDynDocSetDocSet.count_including_deleted.Goals as goal

pub returns-clause-count : goal.returns-clause-count
returns-clause-count g c = c.count_including_deleted.ensures.0 ∙ ap (λ x. length ((g.dyn-1.0.entry x.0).1.rest x.1)) c.deref_box_mut-1.ensures.value.1

pub returns-clause-kind : goal.returns-clause-kind
returns-clause-kind g c = c.count_including_deleted.ensures.1.1.0 ∙ ap (λ x. (g.dyn-1.0.entry x.0).1.always_one x.1) c.deref_box_mut-1.ensures.value.1
