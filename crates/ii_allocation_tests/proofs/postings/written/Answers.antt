use Rattle.std.proofs.Common.{◌≡◌, ◌*◌, ◌++◌, ◌∷◌, [], List, ℕ, ap, ◌∙◌, arith}
use Rattle.ii_layout.specs.PostingsSerializer.{PostingsSerializerState}
use Rattle.ii_allocation_tests.proofs.EvenDocuments.{evens_documents, evens_are_documents, length-evens, next_even}
use Rattle.ii_allocation_tests.proofs.postings.written.Goals as goal

pub write_doc-requires : goal.write_doc-requires
write_doc-requires c = record { ascending = λ _. rw c.loop-i.invariant.docs_are (evens_documents c.loop-i.i (omega arith)); counted = λ _ _. omega arith; covered = λ _. rw c.loop-i.invariant.plain tt }

pub loop-i-preserved : goal.loop-i-preserved
loop-i-preserved c =
    record {
      docs_are = ap (λ (s : PostingsSerializerState). s.docs) c.in_ok-write_doc.ensures.ok ∙ ap (λ (docs : List ℕ). docs ++ (2 * c.loop-i.i) ∷ []) c.loop-i.invariant.docs_are ∙ next_even c.loop-i.i;
      plain = ap (λ (s : PostingsSerializerState). s.norms) c.in_ok-write_doc.ensures.ok ∙ c.loop-i.invariant.plain;
    }

pub close_term-requires : goal.close_term-requires
close_term-requires c =
    let same : c.args.count ≡ c.loop-i.i = omega arith in
    rw c.loop-i.invariant.docs_are (record { counted = λ _. same ∙ length-evens c.loop-i.i; ascending = evens_are_documents c.loop-i.i (omega arith) })
