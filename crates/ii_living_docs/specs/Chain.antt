-- Cursors one after the other.
use Rattle.std.specs.Prelude.{◌≡◌, ℕ, ◌-◌, ◌^◌, ◌≤◌, min, ◌⊎◌, List, drop, length, slice_get, Some}
use Rattle.std.specs.List.{AllZip, flat_map, sum}
use Rattle.ii_base.specs.Entries.{Entry}
use Rattle.ii_docset.specs.Cursor.{IsCurrent}

-- cursors, and the number of those that have ended
pub record ChainState (D : Type 0) : Type 0 where
  pub cursors : List D
  pub current : ℕ

-- the remaining documents of the cursors that have not ended
abbrev pub chained : {D : Type 0} → (D → List Entry) → List D → ℕ → List Entry
chained rest cursors current = flat_map rest (drop current cursors)

-- A cursor has a current document.
pub record HasCurrent {D : Type 0} (rest : D → List Entry) (cursors : List D) (place : ℕ) : Type 0 where
  pub cursor : D
  pub there : slice_get cursors place ≡ Some cursor
  pub current : IsCurrent (rest cursor)

-- The first cursor that has not ended has a current document, if there is one.
pub record IsAtCurrent {D : Type 0} (rest : D → List Entry) (cursors : List D) (current : ℕ) : Type 0 where
  pub within : current ≤ length cursors
  pub here : (current ≡ length cursors) ⊎ HasCurrent rest cursors current

-- A number is the sum of a hint of each cursor, or the greatest number of 32 bits if that is less.
pub record IsSumOfHints {D : Type 0} (hints : D → ℕ → Type 0) (cursors : List D) (hint : ℕ) : Type 0 where
  pub each : List ℕ
  pub are : AllZip hints cursors each
  pub is : hint ≡ min (sum each) (2 ^ 32 - 1)
