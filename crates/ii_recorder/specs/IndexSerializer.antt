-- A serializer of the fields of an index, one after the other.
use Rattle.std.specs.Prelude.{◌≡◌, ℕ, ◌^◌, ◌<◌, ◌⊎◌, ◌↔◌, Bool, false, IfErr, IsErrOf, IsTrue, List, [], Option, Result}
use Rattle.ii_io.specs.declared.faults.Fault.{Fault}
use Rattle.ii_io.specs.CountingWriter.{IsFull}
use Rattle.ii_io.specs.declared.faults.Fault.TheVariants.{Limit, OutOfMemory, SerializerClosed, Write}
use Rattle.ii_io.specs.declared.faults.LimitName.TheVariants as limit
use Rattle.ii_base.specs.Schema.{SchemaEntry}
use Rattle.ii_fieldnorm.specs.Readers.{Norms}
use Rattle.ii_definitions.specs.Fields.{option_of}
use Rattle.ii_recorder.specs.Endings.{EndsUnlessClosed}
use Rattle.ii_recorder.specs.Terms.{WrittenTerm, open_bodies}
use Rattle.ii_recorder.specs.FieldTerms.{FieldTermsState, HasTerms, IsEndFault, closing_bytes}
use Rattle.ii_recorder.specs.IndexBodies.{IndexBodiesState, AddsBodies, CountsFailures, OneIsFull}

-- The fields of the schema, the three files, the terms of the last field, and whether a call failed.
pub record IndexSerializerState : Type 0 where
  pub entries : List SchemaEntry
  pub bodies : IndexBodiesState
  pub field : FieldTermsState
  pub closed : Bool

-- A field was started after the initial bodies: its written terms, then the keys of unwritten ones.
pub record IsWriting (initial : IndexBodiesState) (now : IndexSerializerState) (field tokens : ℕ) (norms : Option Norms) (ts : List WrittenTerm) (pending : List (List ℕ)) : Type 0 where
  pub counted : tokens < 2 ^ 64
  pub mode : now.field.term.mode ≡ option_of now.entries field
  pub norms_are : now.field.term.norms ≡ norms
  pub bodies : AddsBodies initial now.bodies field (open_bodies now.field.term.mode tokens ts)
  pub terms : HasTerms now.field.term.mode now.field.places ts pending

-- A field was started, and no key waits for its term.
pub record IsInField (now : IndexSerializerState) : Type 0 where
  pub initial : IndexBodiesState
  pub field : ℕ
  pub tokens : ℕ
  pub norms : Option Norms
  pub ts : List WrittenTerm
  pub writing : IsWriting initial now field tokens norms ts []

-- A field was started: the index is open and has the same entries, and no term is open.
pub record IsStarted (old new : IndexSerializerState) : Type 0 where
  pub between : new.field.term_open ≡ false
  pub entries : new.entries ≡ old.entries
  pub unclosed : new.closed ≡ false

-- Which errors the start of a field returns, and when.
pub record RefusesStart {A : Type 0} (old : IndexSerializerState) (result : Result A Fault) : Type 0 where
  pub full : IsErrOf result (Limit limit.Offset) → IsFull old.bodies.postings.writer 8
  pub closed : IsErrOf result SerializerClosed ↔ IsTrue old.closed
  pub only : IfErr result (λ e. (e ≡ OutOfMemory) ⊎ (e ≡ Write) ⊎ (e ≡ Limit limit.Offset) ⊎ (e ≡ SerializerClosed))

-- The errors of ending the open term of a field.
abbrev pub IsTermFault : IndexSerializerState → Fault → Type 0
IsTermFault s fault = IsEndFault s.field.term s.field.places s.bodies.postings.writer s.bodies.positions.writer fault

-- The errors of ending a field.
abbrev pub IsFieldFault : IndexSerializerState → Fault → Type 0
IsFieldFault s fault = (IsTrue s.field.term_open × IsTermFault s fault) ⊎ (fault ≡ Write) ⊎ ((fault ≡ Limit limit.Offset) × OneIsFull s.bodies (closing_bytes s.field))

-- The outcome of a call that writes.
pub record EndsWriting {A : Type 0} (old new : IndexSerializerState) (result : Result A Fault) : Type 0 where
  pub entries : new.entries ≡ old.entries
  pub failures : CountsFailures old.bodies new.bodies result
  pub closing : EndsUnlessClosed old.closed new.closed old new result

-- The outcome of a call that writes nothing.
pub record EndsInMemory {A : Type 0} (old new : IndexSerializerState) (result : Result A Fault) : Type 0 where
  pub entries : new.entries ≡ old.entries
  pub bodies : new.bodies ≡ old.bodies
  pub closing : EndsUnlessClosed old.closed new.closed old new result
