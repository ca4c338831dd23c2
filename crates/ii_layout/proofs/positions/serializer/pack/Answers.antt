use Rattle.std.proofs.Common.{arith}
use Rattle.ii_layout.proofs.positions.serializer.pack.Goals as goal

pub returns-clause-fit : goal.returns-clause-fit
returns-clause-fit c k = omega (arith, c.type_inv.block k)
