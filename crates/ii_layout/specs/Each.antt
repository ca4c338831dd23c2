-- Values that are read one by one.
use Rattle.std.specs.Prelude.{ℕ, zero, suc, List, [], ◌∷◌, ◌++◌, Option, Some}
use Rattle.ii_io.specs.Steps.{◌>>=◌}

-- the values at all indices below n, or `None` if one is missing
abbrev pub each : {A : Type 0} → (ℕ → Option A) → ℕ → Option (List A)
each value_at zero = Some []
each value_at (suc n) = do
  earlier ← each value_at n
  last ← value_at n
  Some (earlier ++ last ∷ [])
