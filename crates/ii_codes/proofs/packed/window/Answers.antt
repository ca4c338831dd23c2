use Rattle.std.proofs.Common.{arith}
use Rattle.ii_codes.proofs.WindowLemmas.{window_bits}
use Rattle.ii_codes.proofs.packed.window.Goals as goal

pub returns : goal.returns
returns c = window_bits c.args.bytes.now c.read_u64.result c.read_u64.ensures (λ k. omega (arith, c.type_inv.bytes k))
