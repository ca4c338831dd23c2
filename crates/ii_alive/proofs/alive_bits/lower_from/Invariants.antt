use Rattle.std.proofs.Common.{◌≡◌, ℕ, ◌+◌, ◌<◌, ◌≤◌, get_or}
use Rattle.ii_alive.proofs.alive_bits.lower_from.Given as goal

abbrev pub invariant-loop-i : goal.invariant-loop-i
invariant-loop-i l =
    ((k : ℕ) → k < l.first → get_or l.counts k 0 ≡ get_or l.initial.counts k 0)
    × ((k : ℕ) → l.first ≤ k → k < l.i → get_or l.counts k 0 + 1 ≡ get_or l.initial.counts k 0)
    × ((k : ℕ) → l.i ≤ k → get_or l.counts k 0 ≡ get_or l.initial.counts k 0)
