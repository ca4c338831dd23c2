-- What is kept of the terms of all fields during indexing.
use Rattle.std.specs.Prelude.{◌≡◌, ℕ, ◌<◌, ◌≤◌, ◌^◌, true, if◌then◌else◌, List, [], ◌∷◌, ◌++◌, map, nat_le, length, Option, None, Some, slice_get, unwrap_or}
use Rattle.std.specs.List.{AllByRecursion}
use Rattle.std.specs.Option.{option_map}
use Rattle.ii_io.specs.declared.faults.Fault.{Fault}
use Rattle.ii_io.specs.declared.faults.Fault.TheVariants.{Limit}
use Rattle.ii_io.specs.declared.faults.LimitName.TheVariants as limit
use Rattle.ii_base.specs.Schema.{SchemaEntry}
use Rattle.ii_base.specs.declared.schema.index_record_option.IndexRecordOption.{IndexRecordOption}
use Rattle.ii_base.specs.declared.schema.index_record_option.IndexRecordOption.TheVariants.{Basic}
use Rattle.ii_io.specs.Steps.{◌>>=◌}
use Rattle.ii_base.specs.declared.schema.value_type.ValueType.{ValueType}
use Rattle.ii_definitions.specs.JsonKeys.{is_json, type_of_code, type_under}
use Rattle.ii_json.specs.Paths.{AreDistinct}
use Rattle.ii_postings_writer.specs.ResolvedTerms.{AreClean, HasPath, IsKnownToken, held_key, held_token, is_json_field, json_fields}
use Rattle.ii_definitions.specs.Tokens.{IndexToken}
use Rattle.ii_definitions.specs.Fields.{option_of}
use Rattle.ii_definitions.specs.Postings.{field_count, kind_of}
use Rattle.ii_postings_writer.specs.IndexingContext.{TermIndex}
use Rattle.ii_postings_writer.specs.PostingsWriter.{PostingsWriterState, kept_as, text_kept_of, value_kept_of}
use Rattle.ii_postings_writer.specs.Records.{Records}
use Rattle.ii_postings_writer.specs.WordRefusals.{u64_max}

-- The terms of all fields, the known paths of JSON values, and the writer of each field.
pub record IndexedTermsState : Type 0 where
  pub terms : TermIndex
  pub paths : List (List ℕ)
  pub writers : List PostingsWriterState

-- what is kept of a text's terms in a field
abbrev pub kept_in : List SchemaEntry → ℕ → IndexRecordOption
kept_in entries field = unwrap_or (option_map text_kept_of (slice_get entries field)) Basic

-- what is kept of a value's terms in a field
abbrev pub values_kept_in : List SchemaEntry → ℕ → IndexRecordOption
values_kept_in entries field = unwrap_or (option_map value_kept_of (slice_get entries field)) Basic

-- the writer of a field after `num_tokens` tokens
abbrev pub writer_in : List SchemaEntry → ℕ → ℕ → PostingsWriterState
writer_in entries field num_tokens = record { option = kept_in entries field; value_option = values_kept_in entries field; total_num_tokens = num_tokens }

-- what is kept of a key of a field: the field's option for text, else only the documents
abbrev pub kept_under : List ℕ → SchemaEntry → IndexRecordOption
kept_under key e = kept_as (type_under e.value_type key) e.option

-- what is kept of a key in a field of a schema
abbrev pub kept_at : List SchemaEntry → ℕ → List ℕ → IndexRecordOption
kept_at entries field key = unwrap_or (option_map (kept_under key) (slice_get entries field)) Basic

-- the type of a key as terms hold it: in a JSON field, that of the letter after the path's id
abbrev pub held_type : ValueType → List ℕ → ValueType
held_type t key = if is_json t then unwrap_or (slice_get key 4 >>= type_of_code) t else t

-- what is kept of a key as terms hold it
abbrev pub held_kept_under : List ℕ → SchemaEntry → IndexRecordOption
held_kept_under key e = kept_as (held_type e.value_type key) e.option

-- what is kept of a key as terms hold it, in a field of a schema
abbrev pub held_kept_at : List SchemaEntry → ℕ → List ℕ → IndexRecordOption
held_kept_at entries field key = unwrap_or (option_map (held_kept_under key) (slice_get entries field)) Basic

-- A field takes texts whose keys have this prefix, which terms hold as `held`.
pub record TakesTexts (entries : List SchemaEntry) (paths : List (List ℕ)) (field : ℕ) (held prefix : List ℕ) : Type 0 where
  pub known : field < length entries
  pub option : kept_in entries field ≡ option_of entries field
  pub kept : (key : List ℕ) → kept_at entries field (prefix ++ key) ≡ kept_in entries field
  pub held_kept : (key : List ℕ) → held_kept_at entries field (held ++ key) ≡ kept_in entries field
  pub holds : (key : List ℕ) → held_key (json_fields entries) paths field (prefix ++ key) ≡ held ++ key
  pub has_path : (key : List ℕ) → is_json_field (json_fields entries) field ≡ true → HasPath paths (prefix ++ key)

-- A field takes a value under a key, which terms hold as `held`.
pub record TakesValue (entries : List SchemaEntry) (paths : List (List ℕ)) (field : ℕ) (held key : List ℕ) : Type 0 where
  pub known : field < length entries
  pub option : values_kept_in entries field ≡ Basic
  pub kept : kept_at entries field key ≡ Basic
  pub held_kept : held_kept_at entries field held ≡ Basic
  pub holds : held_key (json_fields entries) paths field key ≡ held
  pub has_path : is_json_field (json_fields entries) field ≡ true → HasPath paths key

-- Known paths are distinct, hold no byte 0, and are at most 2 ^ 32.
pub record AreKnownPaths (paths : List (List ℕ)) : Type 0 where
  pub distinct : AreDistinct paths
  pub clean : AreClean paths
  pub few : length paths ≤ 2 ^ 32

-- A token belongs to a field of a schema, which keeps of its key what the definitions keep.
pub record IsOfField (entries : List SchemaEntry) (t : IndexToken) : Type 0 where
  pub known : t.field < length entries
  pub kind : kind_of (option_of entries t.field) (t ∷ []) ≡ kept_at entries t.field t.key

-- Tokens are stored: each key's postings, with path ids in JSON fields, and each field's number of tokens.
pub record StoresTokens (entries : List SchemaEntry) (s : IndexedTermsState) (ts : List IndexToken) : Type 0 where
  pub records : Records (held_kept_at entries) s.terms (map (held_token (json_fields entries) s.paths) ts)
  pub counted : (field : ℕ) → field < length entries → slice_get s.writers field ≡ Some (writer_in entries field (field_count field ts))
  pub of_fields : AllByRecursion (IsOfField entries) ts
  pub has_paths : AllByRecursion (IsKnownToken (json_fields entries) s.paths) ts
  pub known_paths : AreKnownPaths s.paths

-- why a value is refused after tokens
abbrev pub value_fault : ℕ → List IndexToken → Option Fault
value_fault field ts = if nat_le u64_max (field_count field ts) then Some (Limit limit.Tokens) else None
