use Rattle.ii_docset.proofs.CursorLemmas.{range_sound}
use Rattle.ii_docset_tests.proofs.tests.BelowDocSet.doc.Goals as goal

pub returns-then-self-clause-sound : goal.returns-then-self-clause-sound
returns-then-self-clause-sound c = rw (← c.self.view_is) (range_sound c.self.inside.next c.self.inside.end c.self.invariant.0 c.self.invariant.1)
