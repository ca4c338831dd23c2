use Rattle.ii_codes.proofs.PackedLemmas.{bits_in-lt}
use Rattle.ii_codes.proofs.bitpacker.extract_bits.Goals as goal

pub returns-clause-fits : goal.returns-clause-fits
returns-clause-fits c = rw c.read_bits.ensures (bits_in-lt 8 c.args.bytes.now c.args.addr_bits c.args.num_bits)
