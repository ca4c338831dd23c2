use Rattle.std.proofs.Common.{arith, sym}
use Rattle.ii_docset.proofs.CursorLemmas.{from_doc_here}
use Rattle.ii_query.proofs.ReadsLemmas.{less_from, reads_moved}
use Rattle.ii_query.specs.PositionPiece.{term_with}
use Rattle.ii_query.proofs.phrase.PhrasePart.go_to.Goals as goal

pub returns-then-doc-target-clause-rest : goal.returns-then-doc-target-clause-rest
returns-then-doc-target-clause-rest g c =
    let here = c.doc-doc.ensures.doc in
    let low = c.if-doc-target.true in
    rw (← c.self.view_is) (sym (from_doc_here c.args.target (g.P.DocSet.rest c.self.inside.postings) c.doc-doc.ensures.sound.ascending (omega (arith, here, low))))

pub returns-clause-work : goal.returns-clause-work
returns-clause-work g c =
    let s = c.self.inside in
    let moved = g.met.P.Postings.spent_moving s.postings c.seek-doc.new.self c.seek-doc.ensures.work in
    let here = c.doc-doc.ensures.doc in
    let low = c.if-doc-target.false in
    rw (← c.self.view_is, c.clear.ensures)
    (reads_moved g.P.Postings.spent (term_with s.distance (g.P.DocSet.rest s.postings) s.postings s.piece) (g.P.DocSet.rest c.seek-doc.new.self) c.seek-doc.new.self moved
    (rw c.seek-doc.ensures.rest (less_from s.piece.read s.piece.ended c.args.target (g.P.DocSet.rest s.postings) (omega (arith, here, low)))))
