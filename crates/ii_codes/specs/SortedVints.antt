-- Ascending values, encoded as the vints of their differences.
use Rattle.std.specs.Prelude.{◌≡◌, ℕ, ◌^◌, ◌<◌, List, ◌++◌, length, Option, Some}
use Rattle.std.specs.List.{flat_map, AllByRecursion}
use Rattle.ii_io.specs.Steps.{◌>>=◌, needs}
use Rattle.ii_io.specs.Vints.{u32s_at, vint_u32}
use Rattle.ii_codes.specs.Sums.{running_sums, differences, DoNotFall, fit_u32}

-- n values after an offset at the start of the bytes, if these are valid, and the bytes after them
abbrev pub sorted_vints_at : ℕ → ℕ → List ℕ → Option (List ℕ × List ℕ)
sorted_vints_at offset n bytes = do
  found ← u32s_at n bytes
  _ ← needs (fit_u32 (running_sums offset found.0))
  Some (running_sums offset found.0, found.1)

-- the encoding of values after an offset
abbrev pub sorted_vints : ℕ → List ℕ → List ℕ
sorted_vints offset values = flat_map vint_u32 (differences offset values)

-- Written values are read back, whatever follows.
abbrev pub ReadsSortedVintsBack : Type 0
ReadsSortedVintsBack =
    (offset : ℕ) (values rest : List ℕ) → DoNotFall offset values → AllByRecursion (λ v. v < 2 ^ 32) values
    → sorted_vints_at offset (length values) (sorted_vints offset values ++ rest) ≡ Some (values, rest)
