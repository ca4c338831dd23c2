-- Values in any order, encoded as vints. They are read by `u32s_at`.
use Rattle.std.specs.Prelude.{◌≡◌, ℕ, zero, suc, ◌^◌, ◌<◌, List, [], ◌∷◌, ◌++◌, length, Option, Some}
use Rattle.std.specs.List.{flat_map, AllByRecursion}
use Rattle.ii_io.specs.Steps.{◌>>=◌}
use Rattle.ii_io.specs.Vints.{u32_at, u32s_at, vint_u32}

-- the encoding of values
abbrev pub unsorted_vints : List ℕ → List ℕ
unsorted_vints values = flat_map vint_u32 values

-- the numbers until the bytes end, at most n of them, if no vint is missing
abbrev pub u32s_until_end : ℕ → List ℕ → Option (List ℕ)
u32s_until_end zero bytes = Some []
u32s_until_end (suc n) [] = Some []
u32s_until_end (suc n) (b ∷ bs) = do
  first ← u32_at (b ∷ bs)
  others ← u32s_until_end n first.1
  Some (first.0 ∷ others)

-- Written values are read back, whatever follows.
abbrev pub ReadsUnsortedVintsBack : Type 0
ReadsUnsortedVintsBack =
    (values rest : List ℕ) → AllByRecursion (λ v. v < 2 ^ 32) values → u32s_at (length values) (unsorted_vints values ++ rest) ≡ Some (values, rest)
