-- The state of a skip serializer: the bytes of its entries, and whether an earlier call failed.
use Rattle.std.specs.Prelude.{◌≡◌, ℕ, ◌++◌, ◌↔◌, Bool, false, true, List, Result, IsTrue, OnOk, OnErr, IsErrOf}
use Rattle.ii_io.specs.declared.faults.Fault.{Fault}
use Rattle.ii_io.specs.declared.faults.Fault.TheVariants.{SerializerClosed}
use Rattle.ii_io.specs.Faults.{OnlyMemoryOrClosed}

pub record SkipSerializerState : Type 0 where
  pub bytes : List ℕ
  pub closed : Bool

-- The outcomes of adding bytes: an allocation failure adds none, and every later call fails.
pub record Adds (old new : SkipSerializerState) (bytes : List ℕ) (result : Result (Unit {0}) Fault) : Type 0 where
  pub ok : OnOk result (new ≡ record { bytes = old.bytes ++ bytes; closed = false })
  pub err : OnErr result (new ≡ record old { closed = true })
  pub closed : IsErrOf result SerializerClosed ↔ IsTrue old.closed
  pub only : OnlyMemoryOrClosed result
