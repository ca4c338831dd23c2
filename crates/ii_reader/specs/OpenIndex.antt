-- The readers of an index's fields and its norms, from its four files.
use Rattle.std.specs.Prelude.{◌≡◌, ℕ, ◌<◌, false, List, [], ◌∷◌, IsSomeAnd, IsTrue, if◌then◌else◌, length, map, slice_get, Option, None, Some, Result, Ok, Err, ok_or}
use Rattle.std.specs.List.{enumerate_from}
use Rattle.ii_io.specs.declared.faults.Fault.{Fault}
use Rattle.ii_io.specs.declared.faults.Fault.TheVariants.{OutOfMemory}
use Rattle.ii_io.specs.declared.faults.Part.{Part}
use Rattle.ii_io.specs.declared.faults.Part.TheVariants.{Composite, TokenCount}
use Rattle.ii_io.specs.Parts.{◌>>=◌}
use Rattle.ii_io.specs.Composite.{Body, body_of, composite}
use Rattle.ii_base.specs.Schema.{SchemaEntry}
use Rattle.ii_base.specs.declared.schema.index_record_option.IndexRecordOption.{IndexRecordOption}
use Rattle.ii_termdict.specs.Dictionary.{dictionary}
use Rattle.ii_fieldnorm.specs.Norms.{id_of_norm}
use Rattle.ii_fieldnorm.specs.Readers.{Norms, id_of_doc}
use Rattle.ii_definitions.specs.Fields.{option_of}
use Rattle.ii_definitions.specs.Norms.{has_norms, norm_ids}
use Rattle.ii_definitions.specs.Postings.{doc_count}
use Rattle.ii_definitions.specs.Tokens.{IndexToken}
use Rattle.ii_reader.specs.InvertedIndexReader.{InvertedIndexReaderState, ReaderHolds, reader_of_none, reader_over, trusted_reader}

-- the bodies of the three files of an index
pub record IndexBodies : Type 0 where
  pub terms : List Body
  pub postings : List Body
  pub positions : List Body

-- the bodies in three files, or Composite
abbrev pub index_bodies : List ℕ → List ℕ → List ℕ → Result IndexBodies Part
index_bodies terms postings positions = do
  t ← ok_or (composite terms) Composite
  p ← ok_or (composite postings) Composite
  q ← ok_or (composite positions) Composite
  Ok (record { terms = t; postings = p; positions = q })

-- the reader of a field's three bodies, or the first corrupt part
abbrev pub reader_of_bodies : IndexRecordOption → List ℕ → List ℕ → List ℕ → Result InvertedIndexReaderState Part
reader_of_bodies option terms postings positions = do
  entries ← dictionary terms
  ok_or (reader_over entries postings positions option) TokenCount

-- the reader of a field: over no terms if their body is missing, else over all three bodies
abbrev pub reader_if : IndexRecordOption → Option (List ℕ) → Option (List ℕ) → Option (List ℕ) → Result InvertedIndexReaderState Part
reader_if option None postings positions = Ok (reader_of_none option)
reader_if option (Some terms) None positions = Err Composite
reader_if option (Some terms) (Some postings) None = Err Composite
reader_if option (Some terms) (Some postings) (Some positions) = reader_of_bodies option terms postings positions

-- the reader of a field, by its bodies
abbrev pub reader_of_field : IndexBodies → ℕ → IndexRecordOption → Result InvertedIndexReaderState Part
reader_of_field bodies field option = reader_if option (body_of field bodies.terms) (body_of field bodies.postings) (body_of field bodies.positions)

-- all results, or the first corrupt part
abbrev pub all_or_first : {A : Type 0} → List (Result A Part) → Result (List A) Part
all_or_first [] = Ok []
all_or_first (found ∷ others) = do
  x ← found
  xs ← all_or_first others
  Ok (x ∷ xs)

-- the readers of the fields of a schema, one after the other; bodies of other fields are ignored
abbrev pub field_readers : IndexBodies → List SchemaEntry → Result (List InvertedIndexReaderState) Part
field_readers bodies entries = all_or_first (map (λ (f : ℕ × SchemaEntry). reader_of_field bodies f.0 f.1.option) (enumerate_from 0 entries))

-- an open index: the readers of the fields of its schema, and the bodies of its file of norms
pub record OpenIndexState : Type 0 where
  pub readers : List InvertedIndexReaderState
  pub fieldnorms : List Body

-- an index whose lookups open cursors without validation
abbrev pub trusted_index : OpenIndexState → OpenIndexState
trusted_index index = record { readers = map trusted_reader index.readers; fieldnorms = index.fieldnorms }

-- the index in four files, or the first corrupt part; the tables come before the fields
abbrev pub index_of_files : List ℕ → List ℕ → List ℕ → List ℕ → List SchemaEntry → Result OpenIndexState Part
index_of_files terms postings positions fieldnorms entries = do
  bodies ← index_bodies terms postings positions
  norms ← ok_or (composite fieldnorms) Composite
  readers ← field_readers bodies entries
  Ok (record { readers = readers; fieldnorms = norms })

-- the index in three files, without norms
abbrev pub index_of_terms : List ℕ → List ℕ → List ℕ → List SchemaEntry → Result OpenIndexState Part
index_of_terms terms postings positions entries = do
  bodies ← index_bodies terms postings positions
  readers ← field_readers bodies entries
  Ok (record { readers = readers; fieldnorms = [] })

-- A reader has the option of a field of the schema, and holds its tokens.
pub record FieldReaderHolds (entries : List SchemaEntry) (field : ℕ) (reader : InvertedIndexReaderState) (ts : List IndexToken) : Type 0 where
  pub option_is : reader.option ≡ option_of entries field
  pub holds : ReaderHolds field reader ts

-- The readers of the fields of a schema hold the tokens of each.
abbrev pub ReadersHold : List SchemaEntry → List InvertedIndexReaderState → List IndexToken → Type 0
ReadersHold entries readers ts = (field : ℕ) → field < length entries → IsSomeAnd (slice_get readers field) (λ reader. FieldReaderHolds entries field reader ts)

-- Opening an index gives such readers; it fails only with `OutOfMemory`.
abbrev pub GivesReaders : List SchemaEntry → List IndexToken → Result OpenIndexState Fault → Type 0
GivesReaders entries ts (Ok index) = ReadersHold entries index.readers ts
GivesReaders entries ts (Err fault) = fault ≡ OutOfMemory

-- Bodies hold the norms of exactly the fields with norms: for each document the byte of its number of tokens.
abbrev pub NormsHold : List SchemaEntry → ℕ → List Body → List IndexToken → Type 0
NormsHold entries num_docs bodies ts = (field : ℕ) → body_of field bodies ≡ (if has_norms entries field then Some (norm_ids num_docs field ts) else None)

-- An open index holds tokens: its readers those of each field, and its norms those of fields with norms.
pub record IndexHolds (entries : List SchemaEntry) (num_docs : ℕ) (index : OpenIndexState) (ts : List IndexToken) : Type 0 where
  pub readers : ReadersHold entries index.readers ts
  pub norms : NormsHold entries num_docs index.fieldnorms ts

-- A reader of norms returns for each document the byte of its number of tokens in a field.
pub record AnswersNorms (num_docs field : ℕ) (ts : List IndexToken) (norms : Norms) : Type 0 where
  pub num_docs_is : norms.num_docs ≡ num_docs
  pub each : (doc : ℕ) → doc < num_docs → id_of_doc norms doc ≡ id_of_norm (doc_count doc field ts)

-- A field gives its norms, or `None` exactly if it keeps none; reading fails only with `OutOfMemory`.
abbrev pub GivesNorms : List SchemaEntry → ℕ → ℕ → List IndexToken → Result (Option Norms) Fault → Type 0
GivesNorms entries num_docs field ts (Ok None) = has_norms entries field ≡ false
GivesNorms entries num_docs field ts (Ok (Some norms)) = IsTrue (has_norms entries field) × AnswersNorms num_docs field ts norms
GivesNorms entries num_docs field ts (Err fault) = fault ≡ OutOfMemory
