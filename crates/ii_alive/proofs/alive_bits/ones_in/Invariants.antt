use Rattle.std.proofs.Common.{◌≡◌, take}
use Rattle.ii_alive.specs.Alive.{num_living}
use Rattle.ii_alive.specs.AliveBits.{word_bits}
use Rattle.ii_alive.proofs.alive_bits.ones_in.Given as goal

abbrev pub invariant-loop-word : goal.invariant-loop-word
invariant-loop-word l = l.ones ≡ num_living (word_bits (take l.word-index l.words))
