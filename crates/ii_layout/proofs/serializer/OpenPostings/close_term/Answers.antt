use Rattle.ii_layout.proofs.serializer.OpenPostings.close_term.Goals as goal

pub returns-clause-fits : goal.returns-clause-fits
returns-clause-fits g c = rw (← c.self.view_is) c.write_with-written.ensures.fits
