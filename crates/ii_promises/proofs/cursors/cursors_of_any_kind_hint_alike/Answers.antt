use Rattle.std.proofs.Common.{◌≡◌, refl, ap, subst, ◌∙◌}
use denote.Param.Object.{read_made}
use Rattle.ii_reader.specs.SegmentPostings.{SegmentPostingsState}
use Rattle.ii_promises.proofs.cursors.cursors_of_any_kind_hint_alike.OwnLists.{own-1, at-1-1}
use Rattle.ii_promises.proofs.cursors.cursors_of_any_kind_hint_alike.Goals as goal

pub returns-clause-hint : goal.returns-clause-hint
returns-clause-hint c =
    let told : c.size_hint.result ≡ c.in_ok-new.field-0.value.doc_freq =
    subst (λ (P : Type 0). P)
    (read_made own-1 (own-1.entry at-1-1) at-1-1 refl (Type 0) (λ j y. j.1.DocSet.hints y c.size_hint.result) c.into_dyn_box.result.vtable c.into_dyn_box.result.value c.in_ok-new.field-0.value c.into_dyn_box.ensures.1)
    c.size_hint.ensures.hint
    in
    told ∙ ap (λ (s : SegmentPostingsState). s.doc_freq) c.in_ok-new.ensures.ok
