use Rattle.ii_codes.proofs.LaneLemmas.{eight_of}
use Rattle.ii_codes.proofs.packed.lanes.eight.Goals as goal

pub returns : goal.returns
returns g c = rw c.halves.ensures (eight_of c.args.bytes.now c.args.at g.row.W c.requires.some c.requires.narrow)
