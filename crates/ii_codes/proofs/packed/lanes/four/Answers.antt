use Rattle.ii_codes.proofs.WideLaneLemmas.{four_of}
use Rattle.ii_codes.proofs.packed.lanes.four.Goals as goal

pub returns : goal.returns
returns g c = rw c.words.ensures (four_of c.args.bytes.now c.args.at g.row.W c.args.first c.requires.some c.requires.narrow c.requires.first)
