use Rattle.std.specs.Prelude.{not}
use Rattle.std.proofs.Common.{◌≡◌, ℕ, ◌∙◌}
use Rattle.ii_docset.specs.Cursor.{from_doc}
use Rattle.ii_docset.specs.Intersection.{has_doc}
use Rattle.ii_query.specs.Combined.{without}
use Rattle.ii_query.proofs.PickedLemmas.{picked_from, picked_sound}
use Rattle.ii_query.proofs.exclude.ExcludeDocSet.seek.Goals as goal

pub returns-clause-rest : goal.returns-clause-rest
returns-clause-rest g c =
    let fs = g.B.DocSet.rest c.self.inside.other in
    let moved : without (g.A.DocSet.rest c.seek.new.self) fs ≡ from_doc c.args.target (without (g.A.DocSet.rest c.self.inside.first) fs) = rw (c.seek.ensures.rest) (picked_from (λ (d : ℕ). not (has_doc fs d)) c.args.target (g.A.DocSet.rest c.self.inside.first)) in
    rw (← c.self.view_is) (c.pass.ensures.rest ∙ moved)

pub returns-clause-sound : goal.returns-clause-sound
returns-clause-sound g c = picked_sound (λ (d : ℕ). not (has_doc (g.B.DocSet.rest c.pass.new.other) d)) (g.A.DocSet.rest c.pass.new.first) c.pass.ensures.at.sound
