use Rattle.std.proofs.Common.{arith}
use Rattle.ii_alive.proofs.StateLemmas.{living_le}
use Rattle.ii_alive.proofs.alive_bits.AliveBits.from_words.Goals as goal

pub block_counts-requires : goal.block_counts-requires
block_counts-requires c = rw c.deref.ensures.value (omega (arith, living_le c.args.num_docs c.args.words.items c.requires, c.ranges.num_docs.fits))
