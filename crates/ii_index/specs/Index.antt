-- An index in a directory, its writer, and why their calls fail.
use Rattle.std.specs.Prelude.{◌≡◌, ◌⊎◌, ◌+◌, ◌<◌, ⊤, ℕ, List, [], ◌∷◌, ◌++◌, Option, None, Some, Result, Ok}
use Rattle.std.specs.Str.{IsUtf8}
use Rattle.ii_schema_text.specs.SchemaText.{Refusal, TellsOfText, TextSchemaState, new_schema_text, told_of_text, tokenized_schema}
use Rattle.ii_schema_text.specs.Steps.{◌>>=◌}
use Rattle.ii_store.specs.declared.faults.IndexFault.{IndexFault}
use Rattle.ii_store.specs.Index.{Fails}
use Rattle.ii_store.specs.IndexMeta.{MetaState}
use Rattle.ii_base.specs.Terms.{TermState}
use Rattle.ii_index.specs.Deletes.{DeleteState}
use Rattle.ii_index.specs.Segments.{no_documents}
use Rattle.ii_index.specs.declared.faults.IndexError.{IndexError}
use Rattle.ii_index.specs.declared.faults.IndexError.TheVariants as faults
use Rattle.ii_documents.specs.declared.floats.FloatNumbers.TheVariants as float_numbers
use Rattle.nequllpa_indexing.specs.Documents.{DocumentsState}

-- an index: its directory, and its schema
pub record IndexState (D : Type 0) : Type 0 where
  pub directory : D
  pub schema : TextSchemaState

-- segments that were written, which an index doesn't have yet: the next list, which of its segments is the first of them, and how many documents they have
pub record FlushedState : Type 0 where
  pub list : MetaState
  pub first : ℕ
  pub num_docs : ℕ

-- how many documents have the segments that were written
abbrev pub flushed_docs : Option FlushedState → ℕ
flushed_docs None = 0
flushed_docs (Some x) = x.num_docs

-- a writer: the index; of the documents that weren't committed, those that were written, and those in memory with the bytes of their texts; how many bytes these may have; and the deletes
pub record IndexWriterState (D : Type 0) : Type 0 where
  pub index : IndexState D
  pub flushed : Option FlushedState
  pub documents : DocumentsState
  pub num_bytes : ℕ
  pub max_bytes : ℕ
  pub deletes : List DeleteState

-- Documents have the fields of a schema, and lines are read and stored as its text says.
pub record AreReadBy (s : TextSchemaState) (d : DocumentsState) : Type 0 where
  pub schema : d.schema ≡ s.schema
  pub stored : d.stored ≡ s.stored
  pub unknown_keys : d.unknown_keys ≡ s.unknown_keys
  pub floats : d.floats ≡ float_numbers.Refuse

-- how many documents weren't committed
abbrev pub num_pending : {D : Type 0} → IndexWriterState D → ℕ
num_pending w = flushed_docs w.flushed + w.documents.num_docs

-- a writer with a delete more, of the documents that have a term
abbrev pub with_delete : {D : Type 0} → TermState → IndexWriterState D → IndexWriterState D
with_delete term w = record w { deletes = w.deletes ++ (record { term = term; num_pending = num_pending w }) ∷ [] }

-- A writer has no documents and no deletes that weren't committed.
pub record HasNothing {D : Type 0} (w : IndexWriterState D) : Type 0 where
  pub flushed : w.flushed ≡ None
  pub documents : w.documents ≡ no_documents w.index.schema
  pub num_bytes : w.num_bytes ≡ 0
  pub deletes : w.deletes ≡ []

-- The documents and deletes that weren't committed are the same.
pub record IsPendingAs {D : Type 0} (old new : IndexWriterState D) : Type 0 where
  pub flushed : new.flushed ≡ old.flushed
  pub documents : new.documents ≡ old.documents
  pub num_bytes : new.num_bytes ≡ old.num_bytes
  pub deletes : new.deletes ≡ old.deletes

-- A writer has no documents in memory.
pub record IsFlushed {D : Type 0} (w : IndexWriterState D) : Type 0 where
  pub documents : w.documents ≡ no_documents w.index.schema
  pub num_bytes : w.num_bytes ≡ 0

-- A writer has documents in memory whose texts have n bytes more, and fewer than they may have; no others were written.
pub record HasMoreBytes {D : Type 0} (n : ℕ) (old new : IndexWriterState D) : Type 0 where
  pub num_bytes : new.num_bytes ≡ old.num_bytes + n
  pub within : new.num_bytes < new.max_bytes
  pub flushed : new.flushed ≡ old.flushed

-- After a text of n bytes was added, the documents in memory take no more than they may.
pub record KeepsBudget {D : Type 0} (n : ℕ) (old new : IndexWriterState D) : Type 0 where
  pub max_bytes : new.max_bytes ≡ old.max_bytes
  pub documents : IsFlushed new ⊎ HasMoreBytes n old new
  pub many : num_pending new ≡ num_pending old + 1

-- A text that is no document leaves a writer as it was.
abbrev pub IsUnchangedAfter : {D : Type 0} → IndexError → IndexWriterState D → IndexWriterState D → Type 0
IsUnchangedAfter (faults.Document fault) old new = new ≡ old
IsUnchangedAfter _ old new = ⊤

-- the text of the schema of a new index, and the schema in it
pub record NewSchema : Type 0 where
  pub text : List ℕ
  pub schema : TextSchemaState

-- the schema of a new index, by the text that is given
abbrev pub new_schema : List ℕ → Result NewSchema Refusal
new_schema given = new_schema_text given >>= λ text. tokenized_schema text >>= λ schema. Ok (record { text = text; schema = schema })

-- The schema of a new index is that of a text.
abbrev pub IsNewSchema : List ℕ → TextSchemaState → Type 0
IsNewSchema given schema = (text : List ℕ) × (new_schema given ≡ Ok (record { text = text; schema = schema }))

-- The schema is that in the list of an index.
abbrev pub IsIndexSchema : Result MetaState IndexFault → TextSchemaState → Type 0
IsIndexSchema list schema = (m : MetaState) × (list ≡ Ok m) × (tokenized_schema m.schema ≡ Ok schema)

-- Why bytes are no schema: they aren't UTF-8, or their text is no schema.
abbrev pub IsSchemaFault : List ℕ → IndexError → Type 0
IsSchemaFault bytes faults.IndexAlreadyExists = ⊥
IsSchemaFault bytes faults.SchemaBytes = IsUtf8 bytes → ⊥
IsSchemaFault bytes (faults.Schema fault) = TellsOfText (told_of_text fault) (tokenized_schema bytes)
IsSchemaFault bytes (faults.Store fault) = ⊥
IsSchemaFault bytes (faults.Commit fault) = ⊥
IsSchemaFault bytes (faults.Merge fault) = ⊥
IsSchemaFault bytes (faults.Segment place fault) = ⊥
IsSchemaFault bytes (faults.NoCounts place) = ⊥
IsSchemaFault bytes faults.TooManyDocuments = ⊥
IsSchemaFault bytes (faults.Documents fault) = ⊥
IsSchemaFault bytes (faults.Document fault) = ⊥
IsSchemaFault bytes faults.Uncommitted = ⊥

-- Why an index isn't opened: it has no list that can be read, or what the list has is no schema.
abbrev pub IsOpenFault : Result MetaState IndexFault → IndexError → Type 0
IsOpenFault list faults.IndexAlreadyExists = ⊥
IsOpenFault list faults.SchemaBytes = (m : MetaState) × (list ≡ Ok m) × IsSchemaFault m.schema faults.SchemaBytes
IsOpenFault list (faults.Schema fault) = (m : MetaState) × (list ≡ Ok m) × IsSchemaFault m.schema (faults.Schema fault)
IsOpenFault list (faults.Store fault) = Fails fault list
IsOpenFault list (faults.Commit fault) = ⊥
IsOpenFault list (faults.Merge fault) = ⊥
IsOpenFault list (faults.Segment place fault) = ⊥
IsOpenFault list (faults.NoCounts place) = ⊥
IsOpenFault list faults.TooManyDocuments = ⊥
IsOpenFault list (faults.Documents fault) = ⊥
IsOpenFault list (faults.Document fault) = ⊥
IsOpenFault list faults.Uncommitted = ⊥
