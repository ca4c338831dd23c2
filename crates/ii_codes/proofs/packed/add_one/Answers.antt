use Rattle.std.proofs.Common.{arith}
use Rattle.ii_codes.proofs.PrefixLemmas.{adding-values}
use Rattle.ii_codes.proofs.packed.add_one.Goals as goal

pub returns-clause-values : goal.returns-clause-values
returns-clause-values c = adding-values c.loop-k.fits c.loop-k.k c.args.output.now c.loop-k.output c.loop-k.invariant (omega arith)
