-- A counting writer: the bytes of its writer, if known, the number written through it, and its failed calls.
use Rattle.std.specs.Prelude.{◌≡◌, ℕ, ◌+◌, ◌-◌, ◌^◌, ◌≤◌, ◌<◌, ◌↔◌, ◌⊎◌, List, length, take, Bool, false, IsTrue, Option, Result, Err, OnOk, OnErr, IfErr, IsErrOf}
use Rattle.std.specs.Io.KnownBytes.{Appends}
use Rattle.ii_io.specs.declared.faults.Fault.{Fault}
use Rattle.ii_io.specs.declared.faults.Fault.TheVariants.{OutOfMemory, Write, Limit, SerializerClosed}
use Rattle.ii_io.specs.declared.faults.LimitName.TheVariants.{Offset}

pub record CountingWriterState : Type 0 where
  pub contents : Option (List ℕ)
  pub written_bytes : ℕ
  pub failed_calls : ℕ

-- A count would overflow: the written bytes after `more` bytes, or the failed calls after one more.
abbrev pub IsFull : CountingWriterState → ℕ → Type 0
IsFull writer more = (2 ^ 64 ≤ writer.written_bytes + more) ⊎ (writer.failed_calls ≡ 2 ^ 64 - 1)

-- These bytes fit and were appended, and no call failed.
pub record Wrote (old new : CountingWriterState) (bytes : List ℕ) : Type 0 where
  pub appends : Appends old.contents new.contents bytes
  pub written_bytes : new.written_bytes ≡ old.written_bytes + length bytes
  pub failed_calls : new.failed_calls ≡ old.failed_calls
  pub fits : 0 < length bytes → ¬ IsFull old (length bytes)

-- A prefix of these bytes was appended.
pub record WrotePrefix (old new : CountingWriterState) (bytes : List ℕ) : Type 0 where
  pub count : ℕ
  pub within : count ≤ length bytes
  pub appends : Appends old.contents new.contents (take count bytes)
  pub written_bytes : new.written_bytes ≡ old.written_bytes + count
  pub failed_calls : old.failed_calls ≤ new.failed_calls

-- Zero or more bytes were appended.
pub record Grows (old new : CountingWriterState) : Type 0 where
  pub bytes : List ℕ
  pub appends : Appends old.contents new.contents bytes
  pub written_bytes : new.written_bytes ≡ old.written_bytes + length bytes

-- How a call that writes these bytes ends. A failed call is counted once.
pub record Writes (old new : CountingWriterState) (bytes : List ℕ) (result : Result (Unit {0}) Fault) : Type 0 where
  pub ok : OnOk result (Wrote old new bytes)
  pub write : IsErrOf result Write ↔ (old.failed_calls < new.failed_calls)
  pub by_one : IsErrOf result Write → new.failed_calls ≡ old.failed_calls + 1
  pub limit : IsErrOf result (Limit Offset) → IsFull old (length bytes)
  pub prefix : OnErr result (WrotePrefix old new bytes)
  pub only : IfErr result (λ e. (e ≡ Write) ⊎ (e ≡ Limit Offset))

-- How a call of a serializer that writes these bytes ends. Once closed, it fails and changes nothing.
pub record WritesUnlessClosed (is_closed : Bool) (old new : CountingWriterState) (bytes : List ℕ) (result : Result (Unit {0}) Fault) : Type 0 where
  pub writes : is_closed ≡ false → Writes old new bytes result
  pub refused : IsTrue is_closed → (result ≡ Err SerializerClosed) × (new ≡ old)

-- The same for a call that may also fail with `OutOfMemory` before all is written.
pub record WritesInMemory (is_closed : Bool) (old new : CountingWriterState) (bytes : List ℕ) (result : Result (Unit {0}) Fault) : Type 0 where
  pub writes : is_closed ≡ false → ¬ IsErrOf result OutOfMemory → Writes old new bytes result
  pub memory : IsErrOf result OutOfMemory → WrotePrefix old new bytes × (new.failed_calls ≡ old.failed_calls)
  pub refused : IsTrue is_closed → (result ≡ Err SerializerClosed) × (new ≡ old)

-- The result is an error exactly if the serializer is closed.
pub record Closes {A : Type 0} (result : Result A Fault) (is_closed : Bool) : Type 0 where
  pub ok : OnOk result (is_closed ≡ false)
  pub err : OnErr result (IsTrue is_closed)
