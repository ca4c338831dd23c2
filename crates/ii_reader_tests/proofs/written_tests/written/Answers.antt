use Rattle.std.proofs.Common.{sym, ◌∙◌}
use Rattle.ii_docset.proofs.CursorLemmas.{documents_take}
use Rattle.ii_reader_tests.proofs.written_tests.written.Goals as goal

pub write_doc-requires-clause-ascending : goal.write_doc-requires-clause-ascending
write_doc-requires-clause-ascending c = λ open_still.
    rw c.loop-doc.invariant.docs_are (documents_take c.loop-doc.doc-index c.args.docs.now c.loop-doc-test.true (sym c.ascend.ensures ∙ c.if-not-ascend.false))

pub write_doc-requires-clause-covered : goal.write_doc-requires-clause-covered
write_doc-requires-clause-covered c = λ open_still. rw c.loop-doc.invariant.plain tt
