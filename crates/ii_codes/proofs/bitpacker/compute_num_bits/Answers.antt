use Rattle.std.proofs.Common.{arith}
use Rattle.ii_codes.proofs.WidthLemmas.{num_bits-leading, num_bits-fits}
use Rattle.ii_codes.proofs.bitpacker.compute_num_bits.Goals as goal

pub returns-clause-value : goal.returns-clause-value
returns-clause-value c = num_bits-leading c.args.n (omega arith)

pub returns-clause-fits : goal.returns-clause-fits
returns-clause-fits c = rw (num_bits-leading c.args.n (omega arith)) (num_bits-fits c.args.n (omega arith))
