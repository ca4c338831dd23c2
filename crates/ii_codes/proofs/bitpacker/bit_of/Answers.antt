use Rattle.std.proofs.Common.{arith}
use Rattle.ii_codes.proofs.BitLemmas.{bit_of-low, bit_of-high, bit_of-past}
use Rattle.ii_codes.proofs.bitpacker.bit_of.Goals as goal

pub returns-then-place-len : goal.returns-then-place-len
returns-then-place-len c = bit_of-low c.args.len c.args.low c.args.num_bits c.args.val c.args.place (omega arith)

pub returns-then-place-len-2 : goal.returns-then-place-len-2
returns-then-place-len-2 c = bit_of-high c.args.len c.args.low c.args.num_bits c.args.val c.args.place (omega arith) (omega arith)

pub returns : goal.returns
returns c = bit_of-past c.args.len c.args.low c.args.num_bits c.args.val c.args.place (omega arith) (omega arith)
