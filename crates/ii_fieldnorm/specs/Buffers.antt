-- The state of a field norms writer: one byte per document so far, for each field with field norms.
use Rattle.std.specs.Prelude.{◌≡◌, ℕ, ◌+◌, ◌-◌, ◌≤◌, false, List, [], ◌∷◌, ◌++◌, map, filter, length, take, replicate, Option, Some, None, if◌then◌else◌, drop, slice_get, slice_set, IsTrue, IfSome, IfErr, Result}
use Rattle.std.specs.List.{enumerate_from}
use Rattle.std.specs.Option.{option_map, option_flatten}
use Rattle.ii_io.specs.Composite.{Body, bodies_bytes, places_from, table_bytes, body_of}
use Rattle.ii_io.specs.CompositeWrite.{CompositeWriteState, has_start, AddsBody, HasBodies, WroteComposite}
use Rattle.ii_io.specs.CountingWriter.{CountingWriterState, Wrote, WritesInMemory, Closes}
use Rattle.ii_io.specs.declared.faults.Fault.{Fault}
use Rattle.ii_io.specs.declared.faults.Fault.TheVariants.{SerializerClosed}
use Rattle.ii_base.specs.Schema.{SchemaEntry, keeps_norms}
use Rattle.ii_fieldnorm.specs.Norms.{id_of_norm}

-- the bytes of the documents of each field of a schema, if it has field norms
abbrev pub Buffers : Type 0
Buffers = List (Option (List ℕ))

-- the fields with field norms
abbrev pub norm_fields : List SchemaEntry → List ℕ
norm_fields entries = map (λ (f : ℕ × SchemaEntry). f.0) (filter (λ (f : ℕ × SchemaEntry). keeps_norms f.1) (enumerate_from 0 entries))

-- the empty buffer of a field, if it has field norms
abbrev pub empty_buffer : SchemaEntry → Option (List ℕ)
empty_buffer e = if keeps_norms e then Some [] else None

-- the empty buffers of a schema
abbrev pub empty_buffers : List SchemaEntry → Buffers
empty_buffers entries = map empty_buffer entries

-- a buffer resized to a number of documents: later ones are removed, and missing ones get byte 0
abbrev pub filled : ℕ → List ℕ → List ℕ
filled docs ids = take docs ids ++ replicate (docs - length ids) 0

-- each buffer resized to a number of documents
abbrev pub filled_buffers : ℕ → Buffers → Buffers
filled_buffers docs buffers = map (option_map (filled docs)) buffers

-- the buffer of a field, if it has one
abbrev pub buffer_of : ℕ → Buffers → Option (List ℕ)
buffer_of field buffers = option_flatten (slice_get buffers field)

-- a buffer with one more document: missing ones before it get byte 0
abbrev pub recorded : ℕ → ℕ → List ℕ → List ℕ
recorded doc fieldnorm ids = ids ++ replicate (doc - length ids) 0 ++ id_of_norm fieldnorm ∷ []

-- the buffers after the number of a document is recorded in a field
abbrev pub recorded_buffers : ℕ → ℕ → ℕ → Buffers → Buffers
recorded_buffers field doc fieldnorm buffers = slice_set buffers field (option_map (recorded doc fieldnorm) (buffer_of field buffers))

-- The first of the buffers were resized, and the others are unchanged.
abbrev pub IsFilledFront : ℕ → Buffers → Buffers → Type 0
IsFilledFront docs old new = (count : ℕ) × (new ≡ filled_buffers docs (take count old) ++ drop count old)

-- the bodies written for buffers of consecutive fields, given the first
abbrev pub norm_bodies_from : ℕ → Buffers → List Body
norm_bodies_from field [] = []
norm_bodies_from field (None ∷ bs) = norm_bodies_from (field + 1) bs
norm_bodies_from field (Some ids ∷ bs) = record { field = field; bytes = ids } ∷ norm_bodies_from (field + 1) bs

-- the bodies of all buffers
abbrev pub norm_bodies : Buffers → List Body
norm_bodies buffers = norm_bodies_from 0 buffers

-- None of the fields with field norms was written before.
abbrev pub AreUnwritten : CompositeWriteState → Buffers → Type 0
AreUnwritten c buffers = (field : ℕ) → IfSome (buffer_of field buffers) (λ _. has_start field c.starts ≡ false)

-- The buffer of a field was written, if it has field norms.
abbrev pub AddsBuffer : CompositeWriteState → CompositeWriteState → ℕ → Option (List ℕ) → Type 0
AddsBuffer old new field None = new ≡ old
AddsBuffer old new field (Some ids) = AddsBody old new field ids

-- The buffers were written, each as a body after the old ones.
pub record AddsNorms (old new : CompositeWriteState) (buffers : Buffers) : Type 0 where
  pub wrote : Wrote old.writer new.writer (bodies_bytes (norm_bodies buffers))
  pub count : length new.starts ≡ length old.starts + length (norm_bodies buffers)
  pub starts : (field : ℕ) → length buffers ≤ field → has_start field new.starts ≡ has_start field old.starts
  pub bodies : (initial : CountingWriterState) (bodies : List Body) → HasBodies initial old bodies → HasBodies initial new (bodies ++ norm_bodies buffers)

-- How writing field norms ends. A closed serializer stays closed, and nothing is written.
pub record WritesNorms (old new : CompositeWriteState) (bytes : List ℕ) (result : Result (Unit {0}) Fault) : Type 0 where
  pub writes : old.closed ≡ false → WritesInMemory false old.writer new.writer bytes result × Closes result new.closed
  pub refused : IsTrue old.closed → (new.writer ≡ old.writer) × IsTrue new.closed × IfErr result (λ e. e ≡ SerializerClosed)

-- the remaining bytes of a file after these bodies: those of the buffers, and the table
abbrev pub rest_of_file : List Body → Buffers → List ℕ
rest_of_file bodies buffers = bodies_bytes (norm_bodies buffers) ++ table_bytes (places_from 0 (bodies ++ norm_bodies buffers))

-- The file of these bodies and buffers was written, and each buffer is read back from it.
pub record WroteNorms (old new : CountingWriterState) (bodies : List Body) (buffers : Buffers) : Type 0 where
  pub composite : WroteComposite old new (bodies ++ norm_bodies buffers)
  pub norms : (field : ℕ) → IfSome (buffer_of field buffers) (λ ids. body_of field (bodies ++ norm_bodies buffers) ≡ Some ids)

-- the bytes written for a buffer
abbrev pub buffer_bytes : Option (List ℕ) → List ℕ
buffer_bytes None = []
buffer_bytes (Some ids) = ids
