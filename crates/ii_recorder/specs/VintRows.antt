-- 32-bit numbers in a row, each encoded as a vint.
use Rattle.std.specs.Prelude.{◌≡◌, ℕ, ◌+◌, ◌*◌, ◌%◌, List, [], ◌∷◌, length, nat_lt, if◌then◌else◌, Some}
use Rattle.ii_io.specs.Vints.{u32s_at}

-- a lower group of the first number
abbrev pub lower_group : ℕ → List ℕ → List ℕ
lower_group b [] = []
lower_group b (n ∷ ns) = (b % 128 + 128 * n) ∷ ns

-- the numbers that bytes encode; each one ends with a byte of 128 or more
abbrev pub numbers : List ℕ → List ℕ
numbers [] = []
numbers (b ∷ bs) = if nat_lt b 128 then lower_group b (numbers bs) else b % 128 ∷ numbers bs

-- The bytes consist of 32-bit vints.
abbrev pub AreVints : List ℕ → Type 0
AreVints bytes = u32s_at (length (numbers bytes)) bytes ≡ Some (numbers bytes, [])
