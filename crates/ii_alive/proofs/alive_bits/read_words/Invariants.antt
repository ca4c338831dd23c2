use Rattle.std.proofs.Common.{◌≡◌, ◌*◌, length, take}
use Rattle.ii_alive.specs.AliveBytes.{byte_bits}
use Rattle.ii_alive.specs.AliveBits.{word_bits}
use Rattle.ii_alive.proofs.alive_bits.read_words.Given as goal

abbrev pub invariant-loop-i : goal.invariant-loop-i
invariant-loop-i l = (length l.words.items ≡ l.i) × (word_bits l.words.items ≡ byte_bits (take (8 * l.i) l.bytes))
