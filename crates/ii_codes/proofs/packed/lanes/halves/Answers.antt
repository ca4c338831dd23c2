use Rattle.std.proofs.Common.{◌*◌, ◌/◌, arith}
use Rattle.ii_codes.proofs.LaneLemmas.{halves_of}
use Rattle.ii_codes.proofs.packed.lanes.halves.Goals as goal

pub returns : goal.returns
returns g c =
    halves_of c.args.bytes.now c.args.at (1 * g.row.W / 8) (2 * g.row.W / 8) (3 * g.row.W / 8) (4 * g.row.W / 8) (5 * g.row.W / 8) (6 * g.row.W / 8) (7 * g.row.W / 8) (λ k. omega (arith, c.type_inv.bytes k)) c.requires.enough
    (omega arith) (omega arith) (omega arith) (omega arith) (omega arith) (omega arith) (omega arith)
