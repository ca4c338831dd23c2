use Rattle.std.proofs.Common.{◌≡◌, ℕ, ◌+◌, ◌*◌, ◌/◌, ◌<◌, length, get_or}
use Rattle.ii_format_tests.proofs.vint_tests.halves.Given as goal

abbrev pub invariant-loop-k : goal.invariant-loop-k
invariant-loop-k l = record { many : length l.values ≡ 123; values : (j : ℕ) → j < l.k → get_or l.values j 0 ≡ 4 + j * 7 / 2 }
