use Rattle.std.proofs.Common.{◌∙◌, None, Some, rules}
use Rattle.ii_damage.proofs.PlaceLemmas.{found_place}
use Rattle.ii_damage.proofs.field_bodies.FieldBodies.place.Goals as goal

pub returns-in-Some : goal.returns-in-Some
returns-in-Some c = found_place c.args.field c.args.self.now c.as_slice.result.now (Some c.in-Some.place) c.place_of.result (search rules) (search rules) (search rules) c.place_of.ensures

pub returns-in-None : goal.returns-in-None
returns-in-None c = c.all-in-None.ensures ∙ found_place c.args.field c.args.self.now c.as_slice.result.now None c.place_of.result (search rules) (search rules) (search rules) c.place_of.ensures
