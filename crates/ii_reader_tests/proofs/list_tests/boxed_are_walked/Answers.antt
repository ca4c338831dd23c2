use Rattle.std.proofs.Common.{List, refl, ap, ◌∙◌}
use denote.Param.Object.{read_made}
use Rattle.ii_base.specs.Entries.{Entry}
use Rattle.ii_reader.specs.SegmentPostings.{SegmentPostingsState}
use Rattle.ii_reader_tests.proofs.list_tests.boxed_are_walked.OwnLists.{own-1, at-1-1}
use Rattle.ii_reader_tests.proofs.list_tests.boxed_are_walked.Goals as goal

pub is_walked-requires : goal.is_walked-requires
is_walked-requires c =
    read_made own-1 (own-1.entry at-1-1) at-1-1 refl (List Entry) (λ j y. j.1.DocSet.rest y) c.into_dyn_box.result.vtable c.into_dyn_box.result.value c.in_ok-new.field-0.value c.into_dyn_box.ensures.1
    ∙ ap (λ (s : SegmentPostingsState). s.rest) c.in_ok-new.ensures.ok ∙ c.in-Some.ensures
