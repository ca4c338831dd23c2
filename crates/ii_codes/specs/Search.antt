-- Searching for a value in a block.
use Rattle.std.specs.Prelude.{ℕ, List, filter, length, nat_lt}

-- the number of values less than a target
abbrev pub count_below : ℕ → List ℕ → ℕ
count_below target values = length (filter (λ (v : ℕ). nat_lt v target) values)
