use Rattle.std.proofs.Common.{◌+◌, ◌*◌, ◌/◌, arith}
use Rattle.ii_codes.proofs.WideLaneLemmas.{words_of}
use Rattle.ii_codes.proofs.packed.lanes.words.Goals as goal

pub returns : goal.returns
returns g c =
    words_of c.args.bytes.now c.args.at ((c.args.first + 1 * g.row.W) / 8) ((c.args.first + 2 * g.row.W) / 8) ((c.args.first + 3 * g.row.W) / 8) (λ k. omega (arith, c.type_inv.bytes k)) c.requires.enough
    (omega arith) (omega arith) (omega arith)
