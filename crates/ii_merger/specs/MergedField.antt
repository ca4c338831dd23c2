-- A field of an index, merged from those of its segments.
use Rattle.std.specs.Prelude.{◌≡◌, ℕ, ◌<◌, ◌⊎◌, ◌==◌, if◌then◌else◌, true, List, [], ◌∷◌, ◌++◌, bytes_eq, length, slice_get, None, Option, Some}
use Rattle.std.specs.List.{AllByRecursion, flat_map, list_any}
use Rattle.ii_io.specs.CountingWriter.{IsFull}
use Rattle.ii_io.specs.declared.faults.Fault.{Fault}
use Rattle.ii_io.specs.declared.faults.Fault.TheVariants.{Limit, OutOfMemory, Write}
use Rattle.ii_io.specs.declared.faults.LimitName.TheVariants as limit
use Rattle.ii_base.specs.declared.schema.index_record_option.IndexRecordOption.{IndexRecordOption}
use Rattle.ii_base.specs.declared.schema.index_record_option.IndexRecordOption.TheVariants.{Basic}
use Rattle.ii_base.specs.Entries.{Entry}
use Rattle.ii_base.specs.Schema.{SchemaEntry}
use Rattle.ii_definitions.specs.JsonKeys.{is_key_of_text}
use Rattle.ii_fieldnorm.specs.Readers.{Norms}
use Rattle.ii_termdict.specs.ReadBack.{AreAscending}
use Rattle.ii_recorder.specs.HeldTerms.{HoldsTerms}
use Rattle.ii_recorder.specs.IndexBodies.{AddsBodies, IndexBodiesState, OneIsFull}
use Rattle.ii_recorder.specs.IndexSerializer.{IndexSerializerState, IsWriting}
use Rattle.ii_recorder.specs.Pushed.{AreReadable}
use Rattle.ii_recorder.specs.Terms.{WrittenTerm, field_bodies}
use Rattle.ii_recorder.specs.TokenTerms.{entries_term}
use Rattle.ii_postings_writer.specs.WriteFaults.{IsTermFaultAfter}
use Rattle.ii_merger.specs.MergeSources.{FieldSourceState, IsDamageOf, source_has_key, merged_from, key_damage}

-- what a field keeps of the entries of a key: of those of a value only documents
abbrev pub kind_under : SchemaEntry → List ℕ → IndexRecordOption
kind_under entry key = if is_key_of_text entry.value_type key then entry.option else Basic

-- the term of a key with these entries; none if there are no entries
abbrev pub term_of_entries : Option Norms → IndexRecordOption → List ℕ → List Entry → List WrittenTerm
term_of_entries norms kind key [] = []
term_of_entries norms kind key (e ∷ es) = entries_term norms kind key (e ∷ es) ∷ []

-- the terms of keys with the entries of their living documents in sources
abbrev pub merged_terms : Option Norms → SchemaEntry → List FieldSourceState → List (List ℕ) → List WrittenTerm
merged_terms norms entry ss keys = flat_map (λ (key : List ℕ). term_of_entries norms (kind_under entry key) key (merged_from (kind_under entry key) key 0 ss)) keys

-- Keys ascend, and are exactly those of sources.
pub record AreMergedKeys (ss : List FieldSourceState) (keys : List (List ℕ)) : Type 0 where
  pub ascending : AreAscending keys
  pub exact : (key : List ℕ) → list_any (bytes_eq key) keys ≡ list_any (source_has_key key) ss

-- The lists of a key are sound, and its living entries can be read back where they are written.
pub record IsSoundTerm (kind : IndexRecordOption) (ss : List FieldSourceState) (key : List ℕ) : Type 0 where
  pub sound : key_damage kind key ss ≡ None
  pub readable : 0 < length (merged_from kind key 0 ss) → AreReadable kind (merged_from kind key 0 ss)

-- Why a term can't be written after `ts`, in a field of `tokens` tokens started after `initial`: a damaged part, or a fault of its writing.
abbrev pub IsTermMergeFault : IndexRecordOption → List ℕ → List FieldSourceState → IndexBodiesState → IndexRecordOption → ℕ → Option Norms → List WrittenTerm → Fault → Type 0
IsTermMergeFault kind key ss initial mode tokens norms ts fault =
    IsDamageOf (key_damage kind key ss) fault ⊎ IsTermFaultAfter initial mode tokens ts (entries_term norms kind key (merged_from kind key 0 ss)) fault

-- Why the terms of sources can't be written: a term can't be, after those of lesser keys, which are sound.
pub record IsKeyFault (entry : SchemaEntry) (ss : List FieldSourceState) (initial : IndexBodiesState) (tokens : ℕ) (norms : Option Norms) (fault : Fault) : Type 0 where
  pub keys : List (List ℕ)
  pub key : List ℕ
  pub ascending : AreAscending (keys ++ key ∷ [])
  pub known : list_any (source_has_key key) ss ≡ true
  pub sound : AllByRecursion (λ (k : List ℕ). IsSoundTerm (kind_under entry k) ss k) keys
  pub cause : IsTermMergeFault (kind_under entry key) key ss initial entry.option tokens norms (merged_terms norms entry ss keys) fault

-- A field was started, and has no terms yet.
pub record IsFreshField (now : IndexSerializerState) : Type 0 where
  pub initial : IndexBodiesState
  pub field : ℕ
  pub tokens : ℕ
  pub norms : Option Norms
  pub writing : IsWriting initial now field tokens norms [] []

-- The terms of sources were written after a field was started.
pub record WroteTerms (entry : SchemaEntry) (ss : List FieldSourceState) (initial : IndexBodiesState) (new : IndexSerializerState) (field tokens : ℕ) (norms : Option Norms) : Type 0 where
  pub keys : List (List ℕ)
  pub are : AreMergedKeys ss keys
  pub sound : AllByRecursion (λ (key : List ℕ). IsSoundTerm (kind_under entry key) ss key) keys
  pub writing : IsWriting initial new field tokens norms (merged_terms norms entry ss keys) []

-- A field was written with the terms of sources, and its bodies hold these terms.
pub record WroteMergedField (entries : List SchemaEntry) (field tokens : ℕ) (norms : Option Norms) (ss : List FieldSourceState) (old new : IndexBodiesState) : Type 0 where
  pub entry : SchemaEntry
  pub is : slice_get entries field ≡ Some entry
  pub keys : List (List ℕ)
  pub are : AreMergedKeys ss keys
  pub sound : AllByRecursion (λ (key : List ℕ). IsSoundTerm (kind_under entry key) ss key) keys
  pub adds : AddsBodies old new field (field_bodies entry.option tokens (merged_terms norms entry ss keys))
  pub holds : HoldsTerms entry.option tokens (field_bodies entry.option tokens (merged_terms norms entry ss keys)) (merged_terms norms entry ss keys)

-- Why a field can't be written with the terms of sources: a term can't be, or there is no room for the field.
pub record IsMergedFieldFault (entries : List SchemaEntry) (field tokens : ℕ) (norms : Option Norms) (ss : List FieldSourceState) (old : IndexBodiesState) (fault : Fault) : Type 0 where
  pub entry : SchemaEntry
  pub is : slice_get entries field ≡ Some entry
  pub cause : (fault ≡ OutOfMemory) ⊎ (fault ≡ Write) ⊎ IsKeyFault entry ss old tokens norms fault
      ⊎ ((fault ≡ Limit limit.Offset) × (IsFull old.postings.writer 8
      ⊎ ((keys : List (List ℕ)) × AreMergedKeys ss keys × OneIsFull old (field_bodies entry.option tokens (merged_terms norms entry ss keys)))))
