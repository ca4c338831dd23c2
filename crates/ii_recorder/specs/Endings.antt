-- The outcomes of calls that write an index.
use Rattle.std.specs.Prelude.{◌≡◌, ℕ, ◌+◌, ◌<◌, ◌↔◌, Bool, IsErrOf, IsTrue, OnOk, Result}
use Rattle.ii_io.specs.declared.faults.Fault.{Fault}
use Rattle.ii_io.specs.declared.faults.Fault.TheVariants.{SerializerClosed, Write}
use Rattle.ii_io.specs.CountingWriter.{Closes}

-- How many calls of writers failed: none more after success, and one more after an error of a writer.
pub record CountsOnce {A : Type 0} (old new : ℕ) (result : Result A Fault) : Type 0 where
  pub ok : OnOk result (new ≡ old)
  pub write : IsErrOf result Write ↔ (old < new)
  pub by_one : IsErrOf result Write → new ≡ old + 1

-- The outcome of a call that closes on an error: once closed nothing changes, and each call fails.
pub record EndsUnlessClosed {S A : Type 0} (was_closed is_closed : Bool) (old new : S) (result : Result A Fault) : Type 0 where
  pub closes : Closes result is_closed
  pub refused : IsTrue was_closed → new ≡ old
  pub closed : IsErrOf result SerializerClosed ↔ IsTrue was_closed
