use Rattle.std.proofs.Common.{◌+◌, ◌∙◌, arith, sym}
use Rattle.ii_docset.proofs.CursorLemmas.{from_doc_here}
use Rattle.ii_query.proofs.UnionLemmas.{next_from}
use Rattle.ii_query.proofs.union.pass.Goals as goal

pub returns-then-doc-clause-rest : goal.returns-then-doc-clause-rest
returns-then-doc-clause-rest g c =
    c.advance.ensures.rest ∙ next_from c.args.doc (g.A.DocSet.rest c.args.cursor.now) c.doc.ensures.sound.ascending (sym c.if-doc.true ∙ c.doc.ensures.doc) c.requires.low

pub returns-else-doc-clause-rest : goal.returns-else-doc-clause-rest
returns-else-doc-clause-rest g c =
    let here = c.doc.ensures.doc in
    let low = c.requires.least in
    let other = c.if-doc.false in
    sym (from_doc_here (c.args.doc + 1) (g.A.DocSet.rest c.args.cursor.now) c.doc.ensures.sound.ascending (omega (arith, here, low, other)))
