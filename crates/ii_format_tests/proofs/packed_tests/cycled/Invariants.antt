use Rattle.std.proofs.Common.{◌≡◌, ℕ, ◌<◌, length, get_or}
use Rattle.ii_format_tests.proofs.packed_tests.cycled.Given as goal

abbrev pub invariant-loop-k : goal.invariant-loop-k
invariant-loop-k l = record { many : length l.block ≡ 128; values : (j : ℕ) → j < l.k → 0 < get_or l.block j 0 }
