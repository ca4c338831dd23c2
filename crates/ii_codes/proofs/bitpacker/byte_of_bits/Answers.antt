use Rattle.std.proofs.Common.{◌*◌, ◌++◌, arith, sym}
use Rattle.ii_codes.specs.Bits.{low_bits}
use Rattle.ii_codes.proofs.PackedLemmas.{bits_in-zero}
use Rattle.ii_codes.proofs.BitLemmas.{bit_more}
use Rattle.ii_codes.proofs.bitpacker.byte_of_bits.Goals as goal

pub loop-i-init : goal.loop-i-init
loop-i-init c = sym (bits_in-zero 1 (low_bits c.args.len c.args.low ++ low_bits c.args.num_bits c.args.val) (c.args.j * 8))

pub overflow_add-byte : goal.overflow_add-byte
overflow_add-byte c =
    let more = bit_more c.args.len c.args.low c.args.num_bits c.args.val (c.args.j * 8) c.loop-i.i c.loop-i.byte c.bit_of.result (omega arith) c.loop-i.invariant c.bit_of.ensures in
    omega (arith, more.1)

pub loop-i-preserved : goal.loop-i-preserved
loop-i-preserved c =
    let more = bit_more c.args.len c.args.low c.args.num_bits c.args.val (c.args.j * 8) c.loop-i.i c.loop-i.byte c.bit_of.result (omega arith) c.loop-i.invariant c.bit_of.ensures in
    more.0
