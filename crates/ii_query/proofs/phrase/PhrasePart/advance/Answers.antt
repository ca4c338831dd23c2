use Rattle.ii_query.proofs.ReadsLemmas.{less_after_drop, reads_moved}
use Rattle.ii_query.specs.PositionPiece.{term_with}
use Rattle.ii_query.proofs.phrase.PhrasePart.advance.Goals as goal

pub returns-clause-work : goal.returns-clause-work
returns-clause-work g c =
    let s = c.self.inside in
    let moved = g.met.P.Postings.spent_moving s.postings c.advance-doc.new.self c.advance-doc.ensures.work in
    rw (← c.self.view_is, c.clear.ensures)
    (reads_moved g.P.Postings.spent (term_with s.distance (g.P.DocSet.rest s.postings) s.postings s.piece) (g.P.DocSet.rest c.advance-doc.new.self) c.advance-doc.new.self moved
    (rw c.advance-doc.ensures.rest (less_after_drop s.piece.read s.piece.ended (g.P.DocSet.rest s.postings))))
