use Rattle.std.specs.Prelude.{not}
use Rattle.std.proofs.Common.{ℕ}
use Rattle.ii_docset.specs.Intersection.{has_doc}
use Rattle.ii_query.proofs.PickedLemmas.{picked_sound}
use Rattle.ii_query.proofs.exclude.ExcludeDocSet.doc.Goals as goal

pub returns-clause-sound : goal.returns-clause-sound
returns-clause-sound g c = rw (← c.self.view_is) (picked_sound (λ (d : ℕ). not (has_doc (g.B.DocSet.rest c.self.inside.other) d)) (g.A.DocSet.rest c.self.inside.first) c.doc.ensures.sound)
