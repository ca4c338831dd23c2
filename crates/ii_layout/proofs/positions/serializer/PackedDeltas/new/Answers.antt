use Rattle.ii_layout.proofs.PositionPacking.{packs_empty, empty_in}
use Rattle.ii_layout.proofs.positions.serializer.PackedDeltas.new.Goals as goal

pub invariant_of-result : goal.invariant_of-result
invariant_of-result c = packs_empty c.new-2.result.items c.new-3.result.items c.new-2.ensures.items c.new-3.ensures.items

pub returns : goal.returns
returns c = empty_in c.new-2.result.items c.new-3.result.items c.new-2.ensures.items c.new-3.ensures.items
