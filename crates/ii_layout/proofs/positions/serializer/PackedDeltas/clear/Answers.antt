use Rattle.ii_layout.proofs.PositionPacking.{packs_empty, empty_in}
use Rattle.ii_layout.proofs.positions.serializer.PackedDeltas.clear.Goals as goal

pub invariant_of-self : goal.invariant_of-self
invariant_of-self c = packs_empty c.clear.new.self.items c.clear-2.new.self.items c.clear.ensures.items c.clear-2.ensures.items

pub returns : goal.returns
returns c = empty_in c.clear.new.self.items c.clear-2.new.self.items c.clear.ensures.items c.clear-2.ensures.items
