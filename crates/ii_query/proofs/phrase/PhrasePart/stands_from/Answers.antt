use Rattle.std.proofs.Common.{arith, refl}
use Rattle.ii_docset.proofs.CursorLemmas.{positions_in_order}
use Rattle.ii_query.specs.PositionPiece.{num_passed}
use Rattle.ii_query.specs.WorkLaws.{reads_nothing}
use Rattle.ii_query.proofs.PhraseSteps.{too_great}
use Rattle.ii_query.proofs.phrase.PhrasePart.stands_from.Goals as goal

pub pass_below-requires-clause-order : goal.pass_below-requires-clause-order
pass_below-requires-clause-order g c = positions_in_order (g.P.DocSet.rest c.self.inside.postings) c.doc-doc.ensures.sound

pub returns-in-None-clause-stands : goal.returns-in-None-clause-stands
returns-in-None-clause-stands g c =
    let over = c.in-None.ensures in
    rw (← c.self.view_is) (too_great (g.P.DocSet.rest c.self.inside.postings) (num_passed c.self.inside.piece) _ c.doc-doc.ensures.sound (omega (arith, over)))

pub returns-in-None-clause-work : goal.returns-in-None-clause-work
returns-in-None-clause-work g c =
    let t = c.args.self.now in
    reads_nothing g.P.Postings.spent t (g.met.P.Postings.spent_moving t.cursor t.cursor (g.met.P.DocSet.went_nowhere t.cursor))

pub returns-in-Some-clause-same : goal.returns-in-Some-clause-same
returns-in-Some-clause-same g c = rw (← c.self.view_is, c.pass_below.ensures.rest) refl

pub returns-in-Some-clause-stands : goal.returns-in-Some-clause-stands
returns-in-Some-clause-stands g c = rw (← c.self.view_is) (rw (c.in-Some.ensures.1) at c.pass_below.ensures.found)

pub returns-in-Some-clause-work : goal.returns-in-Some-clause-work
returns-in-Some-clause-work g c = rw (← c.self.view_is) (c.pass_below.ensures.work c.self.inside.distance)
