use Rattle.std.proofs.Common.{List, ℕ, [], ◌∷◌, ◌++◌, ap, ◌∙◌, arith}
use Rattle.ii_layout.specs.PostingsSerializer.{PostingsSerializerState}
use Rattle.ii_format_tests.proofs.RunLemmas.{row_documents, row_more}
use Rattle.ii_format_tests.proofs.tests.add_below.Goals as goal

pub write_doc-requires : goal.write_doc-requires
write_doc-requires c =
    record {
      ascending = rw c.loop-doc.invariant.0 (λ _. row_documents c.loop-doc.doc (omega arith));
      counted = λ _ _. c.requires.some;
      covered = rw c.loop-doc.invariant.1 (λ _. tt);
    }

pub loop-doc-preserved : goal.loop-doc-preserved
loop-doc-preserved c =
    let more = c.in_ok-write_doc.ensures.ok in (
      ap (λ (s : PostingsSerializerState). s.docs) more
          ∙ ap (λ (docs : List ℕ). docs ++ c.loop-doc.doc ∷ []) c.loop-doc.invariant.0 ∙ row_more c.loop-doc.doc,
      ap (λ (s : PostingsSerializerState). s.norms) more ∙ c.loop-doc.invariant.1,
    )
