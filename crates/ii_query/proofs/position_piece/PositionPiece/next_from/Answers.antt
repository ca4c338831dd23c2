use Rattle.std.proofs.Common.{◌≡◌, ◌∙◌, ◌+◌, List, refl, ap, subst, arith}
use Rattle.std.specs.Prelude.{slice_get}
use Rattle.ii_base.specs.Entries.{Entry}
use Rattle.ii_docset.specs.Cursor.{positions_at}
use Rattle.ii_query.specs.PositionPiece.{IsPieceOf, PassesBelow, num_passed, term_with}
use Rattle.ii_query.specs.WorkLaws.{reads_in_turn}
use Rattle.ii_query.proofs.PieceLemmas.{one_passed, passed_more, passed_one, reads_passed}
use Rattle.ii_query.proofs.position_piece.PositionPiece.next_from.Goals as goal

pub returns-then-from-least-clause-work : goal.returns-then-from-least-clause-work
returns-then-from-least-clause-work g c n = reads_in_turn g.P.Postings.spent g.met.P.Postings.spent_on _ _ _ (c.loop-next.invariant.work n) (c.peek.ensures.work n)

pub loop-next-preserved : goal.loop-next-preserved
loop-next-preserved g c =
    let l = c.loop-next in
    let ps = positions_at (g.P.DocSet.rest c.args.postings.now) in
    let is = c.in-Some.ensures.position ∙ ap (λ (es : List Entry). slice_get (positions_at es) (num_passed l.self)) l.invariant.rest in
    let piece = subst (λ (es : List Entry). IsPieceOf (positions_at es) c.peek.new.self) l.invariant.rest c.peek.ensures.piece in
    let passed = passed_more ps c.args.least (num_passed c.args.self.now) (num_passed l.self) c.in-Some.next is (let same = c.from.ensures in let low = c.if-from-least.false in omega (arith, same, low)) l.invariant.passed in
    let before = c.peek.ensures.passed in
    let same : num_passed l.self + 1 ≡ num_passed (passed_one c.peek.new.self) = omega (arith, before) in
    record {
      rest = c.peek.ensures.rest ∙ l.invariant.rest;
      piece = one_passed ps c.peek.new.self piece (c.in-Some.ensures.inside refl);
      passed = subst (PassesBelow ps c.args.least (num_passed c.args.self.now)) same passed;
      work = λ n. reads_passed g.P.Postings.spent n (g.P.DocSet.rest c.args.postings.now) (g.P.DocSet.rest c.peek.new.postings) c.args.postings.now c.peek.new.postings c.args.self.now c.peek.new.self (reads_in_turn g.P.Postings.spent g.met.P.Postings.spent_on (term_with n (g.P.DocSet.rest c.args.postings.now) c.args.postings.now c.args.self.now) (term_with n (g.P.DocSet.rest l.postings) l.postings l.self) (term_with n (g.P.DocSet.rest c.peek.new.postings) c.peek.new.postings c.peek.new.self) (l.invariant.work n) (c.peek.ensures.work n));
    }

pub returns-clause-work : goal.returns-clause-work
returns-clause-work g c n = reads_in_turn g.P.Postings.spent g.met.P.Postings.spent_on _ _ _ (c.loop-next.invariant.work n) (c.peek.ensures.work n)
