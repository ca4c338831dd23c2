use Rattle.std.proofs.Common.{◌≡◌, ℕ, ◌+◌, ◌*◌, ◌<◌, length, get_or}
use Rattle.ii_format_tests.proofs.packed_tests.stepped.Given as goal

abbrev pub invariant-loop-k : goal.invariant-loop-k
invariant-loop-k l = record { many : length l.block ≡ 128; values : (j : ℕ) → j < l.k → get_or l.block j 0 ≡ l.first + l.step * j }
