use Rattle.std.proofs.Common.{List, refl, ◌∙◌}
use denote.Param.Object.{read_made}
use Rattle.ii_base.specs.Entries.{Entry}
use Rattle.ii_docset_tests.proofs.tests.row_erased.OwnLists.{own-1, at-1-1}
use Rattle.ii_docset_tests.proofs.tests.row_erased.Goals as goal

pub row-requires : goal.row-requires
row-requires c =
    read_made own-1 (own-1.entry at-1-1) at-1-1 refl (List Entry) (λ j y. j.1.DocSet.rest y) c.into_dyn_box.result.vtable c.into_dyn_box.result.value c.in_ok-new.field-0.value c.into_dyn_box.ensures.1
    ∙ c.in_ok-new.ensures.ok ∙ c.three.ensures
