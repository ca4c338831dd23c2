use Rattle.ii_query.proofs.PieceLemmas.{reads_passed}
use Rattle.ii_query.proofs.position_piece.PositionPiece.pass.Goals as goal

pub returns-clause-work : goal.returns-clause-work
returns-clause-work g c n = reads_passed g.P.Postings.spent n (g.P.DocSet.rest c.args.postings.now) (g.P.DocSet.rest c.peek.new.postings) c.args.postings.now c.peek.new.postings c.args.self.now c.peek.new.self (c.peek.ensures.work n)
