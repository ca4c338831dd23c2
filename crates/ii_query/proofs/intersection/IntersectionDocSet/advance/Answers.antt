use Rattle.std.proofs.Common.{◌≡◌, ◌∙◌, drop}
use Rattle.ii_docset.specs.Intersection.{has_doc}
use Rattle.ii_query.specs.Combined.{common}
use Rattle.ii_query.proofs.PickedLemmas.{picked_drop, picked_sound}
use Rattle.ii_query.proofs.intersection.IntersectionDocSet.advance.Goals as goal

pub returns-clause-rest : goal.returns-clause-rest
returns-clause-rest g c =
    let fs = g.B.DocSet.rest c.self.inside.other in
    let moved : common (g.A.DocSet.rest c.advance.new.self) fs ≡ drop 1 (common (g.A.DocSet.rest c.self.inside.first) fs) = rw (c.advance.ensures.rest) (picked_drop (has_doc fs) (g.A.DocSet.rest c.self.inside.first) c.self.invariant) in
    rw (← c.self.view_is) (c.meet.ensures.rest ∙ moved)

pub returns-clause-sound : goal.returns-clause-sound
returns-clause-sound g c = picked_sound (has_doc (g.B.DocSet.rest c.meet.new.other)) (g.A.DocSet.rest c.meet.new.first) c.meet.ensures.at.sound
