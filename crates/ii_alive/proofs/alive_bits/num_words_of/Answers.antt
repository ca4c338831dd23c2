use Rattle.std.proofs.Common.{arith}
use Rattle.ii_alive.specs.AliveBytes.{num_words}
use Rattle.ii_alive.proofs.alive_bits.num_words_of.Goals as goal

pub returns-clause-words : goal.returns-clause-words
unfolding num_words
returns-clause-words c = omega (arith, c.div_ceil.ensures)

pub returns-clause-few : goal.returns-clause-few
returns-clause-few c = omega (arith, c.div_ceil.ensures, c.ranges.num_docs.fits)
