-- What a small index in memory has of the files of an index.
use Rattle.std.specs.Prelude.{◌≡◌, ℕ, ◌<◌, ◌&&◌, ◌⊎◌, Bool, true, false, List, Option, None, Some, Ok, if◌then◌else◌, slice_get}
use Rattle.ii_io.specs.declared.faults.Fault.TheVariants as faults
use Rattle.ii_io.specs.declared.faults.LimitName.TheVariants.{Offset}
use Rattle.ii_io.specs.declared.faults.Part.TheVariants as parts
use Rattle.ii_io.specs.Composite.{Body, body_of, composite}
use Rattle.ii_base.specs.Schema.{SchemaEntry}
use Rattle.ii_base.specs.declared.schema.index_record_option.IndexRecordOption.{IndexRecordOption}
use Rattle.ii_file_slice.specs.declared.faults.FileFault.{FileFault}
use Rattle.ii_file_slice.specs.declared.faults.FileFault.TheVariants.{Index}
use Rattle.ii_query_parser.specs.declared.query.Query.{Query}
use Rattle.ii_reader.specs.InvertedIndexReader.{InvertedIndexReaderState}
use Rattle.ii_reader.specs.OpenIndex.{IndexBodies, OpenIndexState, index_of_files}
use Rattle.ii_warmup.specs.Parts.{IsPartOfField}
use Rattle.ii_warmup.specs.QueryTerms.{QueryRangeState, QueryTermState, names_field, query_ranges, requested_of, requested_terms}
use Rattle.ii_warmup.specs.Warmup.{all_lie, all_sound}
use Rattle.ii_warmup.specs.declared.scoring.EnableScoring.{EnableScoring}
use Rattle.ii_warmup.specs.declared.scoring.EnableScoring.TheVariants.{Disabled, Enabled}

-- The bytes of a composite file are known, and these are its bodies.
pub record KnownBodies (known : Option (List ℕ)) (bodies : List Body) : Type 0 where
  pub bytes : List ℕ
  pub known_is : known ≡ Some bytes
  pub bodies_are : composite bytes ≡ Some bodies

-- The bytes of the files of terms, postings and positions are known, and these are their bodies.
pub record KnownTables (terms postings positions : Option (List ℕ)) (bodies : IndexBodies) : Type 0 where
  pub terms_are : KnownBodies terms bodies.terms
  pub postings_are : KnownBodies postings bodies.postings
  pub positions_are : KnownBodies positions bodies.positions

-- The bytes of the four files of an index are known, and hold this index.
pub record HoldIndex (terms postings positions fieldnorms : Option (List ℕ)) (entries : List SchemaEntry) (index : OpenIndexState) : Type 0 where
  pub terms_bytes : List ℕ
  pub postings_bytes : List ℕ
  pub positions_bytes : List ℕ
  pub norms_bytes : List ℕ
  pub terms_are : terms ≡ Some terms_bytes
  pub postings_are : postings ≡ Some postings_bytes
  pub positions_are : positions ≡ Some positions_bytes
  pub norms_are : fieldnorms ≡ Some norms_bytes
  pub index_is : index_of_files terms_bytes postings_bytes positions_bytes norms_bytes entries ≡ Ok index

-- Readers have of each field of other ones what is requested of it.
abbrev pub ArePartsOf : (ℕ → List ℕ → Option IndexRecordOption) → List InvertedIndexReaderState → List InvertedIndexReaderState → Type 0
ArePartsOf requested parts whole = (field : ℕ) → IsPartOfField (requested field) (slice_get parts field) (slice_get whole field)

-- A test fails for the reader of a field.
pub record FailsForField (passes : ℕ → InvertedIndexReaderState → Bool) (readers : List InvertedIndexReaderState) : Type 0 where
  pub field : ℕ
  pub reader : InvertedIndexReaderState
  pub there : slice_get readers field ≡ Some reader
  pub fails : passes field reader ≡ false

-- The ranges of a requested term of a field aren't within the field's bodies.
abbrev pub LieOutside : (ℕ → List ℕ → Option IndexRecordOption) → List InvertedIndexReaderState → Type 0
LieOutside requested readers = FailsForField (λ (field : ℕ) (reader : InvertedIndexReaderState). all_lie (requested field) reader) readers

-- A range of a requested term of a field has 2^32 bytes or more, or ends before its start.
abbrev pub AreTooLong : (ℕ → List ℕ → Option IndexRecordOption) → List InvertedIndexReaderState → Type 0
AreTooLong requested readers = FailsForField (λ (field : ℕ) (reader : InvertedIndexReaderState). all_sound (requested field) reader.terms) readers

-- Why what is requested of an index can't be read of sound files: memory; a dictionary in memory would have 2^64 bytes or more; ranges of requested terms.
abbrev pub IsWarmupFault : (ℕ → List ℕ → Option IndexRecordOption) → List InvertedIndexReaderState → FileFault → Type 0
IsWarmupFault requested readers e =
    (e ≡ Index faults.OutOfMemory) ⊎ (e ≡ Index (faults.Limit Offset)) ⊎ ((e ≡ Index (faults.Damaged parts.Range)) × LieOutside requested readers)
    ⊎ ((e ≡ Index (faults.Damaged parts.TermStore)) × AreTooLong requested readers)

-- what a query requests of the keys of a field
abbrev pub requests : Query → ℕ → List ℕ → Option IndexRecordOption
requests query field key = requested_of (requested_terms query) (query_ranges query) field key

-- whether the norms of the fields of a query are read
abbrev pub reads_norms : EnableScoring → Bool
reads_norms Enabled = true
reads_norms Disabled = false

-- Bodies are the norms of the fields that a query names, if the search ranks, and no other.
abbrev pub HaveNormsFor : EnableScoring → List QueryTermState → List QueryRangeState → ℕ → List Body → List Body → Type 0
HaveNormsFor scoring terms ranges num_fields part whole =
    (field : ℕ) → field < num_fields → body_of field part ≡ (if reads_norms scoring && names_field terms ranges field then body_of field whole else None)
