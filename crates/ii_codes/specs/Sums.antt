-- Values and their differences.
use Rattle.std.specs.Prelude.{ℕ, ◌+◌, ◌-◌, ◌^◌, ◌≤◌, Bool, List, [], ◌∷◌, nat_lt, ⊤}
use Rattle.std.specs.List.{list_all}

-- the values with these differences
abbrev pub running_sums : ℕ → List ℕ → List ℕ
running_sums before [] = []
running_sums before (d ∷ ds) = (before + d) ∷ running_sums (before + d) ds

-- the difference of each value to the one before it
abbrev pub differences : ℕ → List ℕ → List ℕ
differences before [] = []
differences before (v ∷ vs) = (v - before) ∷ differences v vs

-- No value is less than the one before it.
abbrev pub DoNotFall : ℕ → List ℕ → Type 0
DoNotFall before [] = ⊤
DoNotFall before (v ∷ vs) = (before ≤ v) × DoNotFall v vs

-- whether each value has at most 32 bits
abbrev pub fit_u32 : List ℕ → Bool
fit_u32 values = list_all (λ v. nat_lt v (2 ^ 32)) values
