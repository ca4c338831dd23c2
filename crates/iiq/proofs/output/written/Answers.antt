use Rattle.std.proofs.Common.{arith, List, ℕ, Some, ap, ◌∙◌, sym}
use Rattle.std.proofs.lemmas.List.{take_all}
use Rattle.ii_io.specs.CountingWriter.{CountingWriterState}
use Rattle.ii_io.proofs.WriteSteps.{writes_went}
use Rattle.ii_docset.proofs.CursorLemmas.{documents_take}
use Rattle.iiq.proofs.ReplyLemmas.{few_documents, written_alone, holds_all}
use Rattle.iiq.proofs.output.written.Goals as goal

pub overflow_cast-docs : goal.overflow_cast-docs
overflow_cast-docs c = omega (arith, few_documents c.args.docs.now c.requires)

pub write_doc-requires : goal.write_doc-requires
write_doc-requires c =
    record { ascending = λ _. rw c.loop-doc.invariant.docs_are (documents_take c.loop-doc.doc-index c.args.docs.now c.loop-doc-test.true c.requires); counted = λ _ _. omega arith; covered = λ _. rw c.loop-doc.invariant.plain tt }

pub overflow_cast-docs-2 : goal.overflow_cast-docs-2
overflow_cast-docs-2 c = omega (arith, few_documents c.args.docs.now c.requires)

pub returns : goal.returns
returns c =
    let most = c.loop-doc-test.false in
    let all = c.loop-doc.invariant.docs_are ∙ take_all c.loop-doc.doc-index c.args.docs.now (omega arith) in
    let bytes = written_alone c.loop-doc.serializer.skip_info c.loop-doc.serializer.docs c.loop-doc.serializer.freqs c.args.docs.now c.loop-doc.invariant.shape all in
    let wrote = writes_went _ _ _ _ (sym c.if-is_err-2.false ∙ c.is_err-2.ensures.value) (rw c.loop-doc.invariant.plain at (c.close_term.ensures.written.writes c.loop-doc.invariant.going)) in
    let start = ap (λ (s : CountingWriterState). s.contents) c.wrap-output.ensures ∙ ap (λ (xs : List ℕ). Some xs) c.new.ensures.items in
    holds_all c.wrap-output.result c.close_term.new.output_write c.finish.result.items _ start c.finish.ensures wrote ∙ bytes
