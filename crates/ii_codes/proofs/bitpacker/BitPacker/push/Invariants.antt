use Rattle.std.proofs.Common.{◌≡◌, ◌++◌, length, take}
use Rattle.ii_codes.specs.Packed.{entries_in}
use Rattle.ii_codes.specs.Bits.{low_bits}
use Rattle.ii_codes.proofs.bitpacker.BitPacker.push.Given as goal

abbrev pub invariant-loop-j : goal.invariant-loop-j
invariant-loop-j l = record {
  many : length l.whole ≡ length l.fn.whole;
  written : take l.j l.whole ≡ entries_in 1 8 l.j (low_bits l.len l.low ++ low_bits l.num_bits l.val);
}
