-- The calls of a writer, and how many of them failed.
use Rattle.std.specs.Prelude.{◌≡◌, ℕ, ◌+◌, ◌==◌, if◌then◌else◌, ⊤, List, Option, None, Some, Bool, true, false, Result, Ok, Err}
use Rattle.ii_io.specs.CountingWriter.{CountingWriterState}

-- A number of failed calls, if it is known, rises by n.
abbrev pub Rises : Option ℕ → Option ℕ → ℕ → Type 0
Rises None new n = ⊤
Rises (Some a) None n = ⊥
Rises (Some a) (Some b) n = b ≡ a + n

-- 1 for a failed call, which accepts no byte, or 0
abbrev pub failed_by_count : ℕ → ℕ
failed_by_count n = if n == 0 then 1 else 0

-- 1 for a failed call, or 0
abbrev pub failed_by_answer : Bool → ℕ
failed_by_answer true = 0
failed_by_answer false = 1

-- 1 for an error, or 0
abbrev pub failed_by_result : {A E : Type 0} → Result A E → ℕ
failed_by_result (Ok a) = 0
failed_by_result (Err e) = 1

-- What a writer in memory holds, and how many of its calls failed.
pub record FailingWriterState : Type 0 where
  pub bytes : List ℕ
  pub failures : ℕ

-- A writer with its counts, and the number of its failed calls as it knows them itself.
pub record CountedCallsState : Type 0 where
  pub counts : CountingWriterState
  pub failures : Option ℕ
