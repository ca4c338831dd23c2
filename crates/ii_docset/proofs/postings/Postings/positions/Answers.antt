use Rattle.ii_docset.proofs.CursorLemmas.{map-add_zero}
use Rattle.ii_docset.specs.Cursor.{positions_at}
use Rattle.ii_docset.proofs.postings.Postings.positions.Goals as goal

pub returns-clause-ok : goal.returns-clause-ok
returns-clause-ok g c = rw (← map-add_zero (positions_at (g.Self.DocSet.rest c.args.self.now))) c.positions_with_offset.ensures.ok
