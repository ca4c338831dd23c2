use Rattle.std.proofs.Common.{◌≡◌, ℕ, ◌*◌, ◌<◌, get_or, length, take}
use Rattle.ii_alive.specs.Alive.{num_living}
use Rattle.ii_alive.specs.AliveBits.{word_bits}
use Rattle.ii_alive.proofs.alive_bits.block_counts.Given as goal

abbrev pub invariant-loop-block : goal.invariant-loop-block
invariant-loop-block l =
    (length l.living_before.items ≡ l.block)
    × ((k : ℕ) → k < l.block → get_or l.living_before.items k 0 ≡ num_living (word_bits (take (8 * k) l.words)))
    × (l.living ≡ num_living (word_bits (take (8 * l.block) l.words)))
