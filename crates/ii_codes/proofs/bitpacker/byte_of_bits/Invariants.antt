use Rattle.std.proofs.Common.{◌≡◌, ◌*◌, ◌++◌}
use Rattle.ii_codes.specs.Packed.{bits_in}
use Rattle.ii_codes.specs.Bits.{low_bits}
use Rattle.ii_codes.proofs.bitpacker.byte_of_bits.Given as goal

abbrev pub invariant-loop-i : goal.invariant-loop-i
invariant-loop-i l = l.byte ≡ bits_in 1 (low_bits l.len l.low ++ low_bits l.num_bits l.val) (l.j * 8) l.i
