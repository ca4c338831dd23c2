use Rattle.std.proofs.Common.{arith, sym}
use Rattle.ii_docset.proofs.CursorLemmas.{from_doc_here}
use Rattle.ii_ranking.proofs.term_scorer.go_on.Goals as goal

pub returns-then-doc-target-clause-rest : goal.returns-then-doc-target-clause-rest
returns-then-doc-target-clause-rest g c =
    let first = c.doc-doc.ensures.doc in
    let above = c.if-doc-target.true in
    sym (from_doc_here c.args.target (g.D.DocSet.rest c.args.cursor.now) c.doc-doc.ensures.sound.ascending (omega (arith, first, above)))
