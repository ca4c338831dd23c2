use Rattle.ii_layout.proofs.serializer.PostingsSerializer.close_term.Goals as goal

pub returns-clause-fits : goal.returns-clause-fits
returns-clause-fits g c = rw (← c.self.view_is) c.close_term-written.ensures.fits
