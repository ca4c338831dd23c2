-- The distinct paths of an index, in order of their first use.
use Rattle.std.specs.Prelude.{ℕ, ◌^◌, Bool, List, [], ◌∷◌, ◌++◌, length, nat_lt, if◌then◌else◌, map, Option, None, Some, bytes_eq}
use Rattle.std.specs.Borrow.{Bor}
use Rattle.std.specs.List.{IsDistinct, list_any, position_or_len}
use Rattle.ii_io.specs.declared.faults.Fault.{Fault}
use Rattle.ii_io.specs.declared.faults.Fault.TheVariants.{Limit}
use Rattle.ii_io.specs.declared.faults.LimitName.TheVariants as limit

-- whether a path is known
abbrev pub is_known : List (List ℕ) → List ℕ → Bool
is_known known path = list_any (bytes_eq path) known

-- No path occurs twice.
abbrev pub AreDistinct : List (List ℕ) → Type 0
AreDistinct known = IsDistinct bytes_eq known

-- the id of a path: its index, or the next one if it is new
abbrev pub path_id : List (List ℕ) → List ℕ → ℕ
path_id known path = position_or_len (bytes_eq path) known

-- the known paths after one more
abbrev pub with_path : List (List ℕ) → List ℕ → List (List ℕ)
with_path known path = if is_known known path then known else known ++ path ∷ []

-- the fault if a new path can't have a 32-bit id
abbrev pub path_fault : List (List ℕ) → List ℕ → Option Fault
path_fault known path = if is_known known path then None else if nat_lt (length known) (2 ^ 32) then None else Some (Limit limit.Paths)

-- the bytes of borrowed texts
abbrev pub texts_of : List (Bor (List ℕ)) → List (List ℕ)
texts_of texts = map (λ text. text.now) texts
