use Rattle.std.proofs.Common.{◌≡◌, ◌-◌, ℕ, length}
use Rattle.ii_docset.specs.Cursor.{positions_at}
use Rattle.ii_query.specs.Phrase.{ReadsOnce}
use Rattle.ii_query.specs.PositionPiece.{IsPieceOf, PassesBelow, num_passed, term_with}
use Rattle.ii_query.proofs.position_piece.PositionPiece.next_from.Given as goal

abbrev pub invariant-loop-next : goal.invariant-loop-next
invariant-loop-next g l = record {
  rest : g.P.DocSet.rest l.postings ≡ g.P.DocSet.rest l.fn.postings;
  piece : IsPieceOf (positions_at (g.P.DocSet.rest l.fn.postings)) l.self;
  passed : PassesBelow (positions_at (g.P.DocSet.rest l.fn.postings)) l.least (num_passed l.fn.self) (num_passed l.self);
  work : (n : ℕ) → ReadsOnce g.P.Postings.spent (term_with n (g.P.DocSet.rest l.fn.postings) l.fn.postings l.fn.self) (term_with n (g.P.DocSet.rest l.postings) l.postings l.self);
}

abbrev pub decreases-loop-next : goal.decreases-loop-next
decreases-loop-next g l = length (positions_at (g.P.DocSet.rest l.fn.postings)) - num_passed l.self
