use Rattle.std.proofs.Common.{◌≡◌, ◌∙◌}
use Rattle.ii_docset.specs.Cursor.{from_doc}
use Rattle.ii_docset.specs.Intersection.{has_doc}
use Rattle.ii_query.specs.Combined.{common}
use Rattle.ii_query.proofs.PickedLemmas.{picked_from, picked_sound}
use Rattle.ii_query.proofs.intersection.IntersectionDocSet.seek.Goals as goal

pub returns-clause-rest : goal.returns-clause-rest
returns-clause-rest g c =
    let fs = g.B.DocSet.rest c.self.inside.other in
    let moved : common (g.A.DocSet.rest c.seek.new.self) fs ≡ from_doc c.args.target (common (g.A.DocSet.rest c.self.inside.first) fs) = rw (c.seek.ensures.rest) (picked_from (has_doc fs) c.args.target (g.A.DocSet.rest c.self.inside.first)) in
    rw (← c.self.view_is) (c.meet.ensures.rest ∙ moved)

pub returns-clause-sound : goal.returns-clause-sound
returns-clause-sound g c = picked_sound (has_doc (g.B.DocSet.rest c.meet.new.other)) (g.A.DocSet.rest c.meet.new.first) c.meet.ensures.at.sound
