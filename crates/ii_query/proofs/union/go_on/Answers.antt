use Rattle.std.proofs.Common.{arith, sym}
use Rattle.ii_docset.proofs.CursorLemmas.{from_doc_here}
use Rattle.ii_query.proofs.union.go_on.Goals as goal

pub returns-else-doc-target-clause-rest : goal.returns-else-doc-target-clause-rest
returns-else-doc-target-clause-rest g c =
    let here = c.doc.ensures.doc in
    let low = c.if-doc-target.false in
    sym (from_doc_here c.args.target (g.A.DocSet.rest c.args.cursor.now) c.doc.ensures.sound.ascending (omega (arith, here, low)))
