use Rattle.ii_docset.proofs.walking.make_call.Goals as goal

pub returns-in-Doc-clause-work : goal.returns-in-Doc-clause-work
returns-in-Doc-clause-work g c = rw (c.in-Doc.is) (g.met.P.Postings.spent_moving _ _ (g.met.P.DocSet.went_nowhere _))

pub returns-in-Advance-clause-work : goal.returns-in-Advance-clause-work
returns-in-Advance-clause-work g c = rw (c.in-Advance.is) (g.met.P.Postings.spent_moving _ _ c.advance.ensures.work)

pub returns-in-Seek-clause-work : goal.returns-in-Seek-clause-work
returns-in-Seek-clause-work g c = rw (c.in-Seek.is) (g.met.P.Postings.spent_moving _ _ c.seek.ensures.work)

pub returns-in-TermFreq-clause-work : goal.returns-in-TermFreq-clause-work
returns-in-TermFreq-clause-work g c = rw (c.in-TermFreq.is) (g.met.P.Postings.spent_moving _ _ (g.met.P.DocSet.went_nowhere _))

pub returns-in_err-positions_with_offset-in-Positions-clause-work : goal.returns-in_err-positions_with_offset-in-Positions-clause-work
returns-in_err-positions_with_offset-in-Positions-clause-work g c = rw (c.in-Positions.is) (c.positions_with_offset.ensures.work)

pub returns-in_ok-positions_with_offset-in-Positions-clause-work : goal.returns-in_ok-positions_with_offset-in-Positions-clause-work
returns-in_ok-positions_with_offset-in-Positions-clause-work g c = rw (c.in-Positions.is) (c.positions_with_offset.ensures.work)
