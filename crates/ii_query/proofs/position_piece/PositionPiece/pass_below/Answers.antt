use Rattle.std.proofs.Common.{◌∙◌, arith}
use Rattle.ii_docset.specs.Cursor.{positions_at}
use Rattle.ii_query.specs.PositionPiece.{num_passed}
use Rattle.ii_query.proofs.PieceLemmas.{found_at, none_left, passed_keeps}
use Rattle.ii_query.proofs.position_piece.PositionPiece.pass_below.Goals as goal

pub returns-in-Some-clause-found : goal.returns-in-Some-clause-found
returns-in-Some-clause-found g c =
    let ps = positions_at (g.P.DocSet.rest c.args.postings.now) in
    let same = c.from.ensures in
    let up = c.in-Some.ensures.from in
    found_at ps c.args.position (num_passed c.next_from.new.self) c.in-Some.next c.requires.order c.in-Some.ensures.position (omega (arith, same, up))
    ∙ passed_keeps ps c.from.result (num_passed c.args.self.now) (num_passed c.next_from.new.self) c.args.position c.next_from.ensures.later (omega (arith, same))

pub returns-in-Some-clause-later : goal.returns-in-Some-clause-later
returns-in-Some-clause-later g c p up =
    let same = c.from.ensures in
    passed_keeps (positions_at (g.P.DocSet.rest c.args.postings.now)) c.from.result (num_passed c.args.self.now) (num_passed c.next_from.new.self) p c.next_from.ensures.later (omega (arith, same, up))

pub returns-in-None-clause-found : goal.returns-in-None-clause-found
returns-in-None-clause-found g c =
    let ps = positions_at (g.P.DocSet.rest c.args.postings.now) in
    let same = c.from.ensures in
    none_left ps (num_passed c.next_from.new.self) c.args.position c.in-None.ensures.position
    ∙ passed_keeps ps c.from.result (num_passed c.args.self.now) (num_passed c.next_from.new.self) c.args.position c.next_from.ensures.later (omega (arith, same))

pub returns-in-None-clause-later : goal.returns-in-None-clause-later
returns-in-None-clause-later g c p up =
    let same = c.from.ensures in
    passed_keeps (positions_at (g.P.DocSet.rest c.args.postings.now)) c.from.result (num_passed c.args.self.now) (num_passed c.next_from.new.self) p c.next_from.ensures.later (omega (arith, same, up))
