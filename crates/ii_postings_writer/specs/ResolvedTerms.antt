-- Terms of JSON fields hold a path id during indexing; a dictionary has the path in its place.
use Rattle.std.specs.Prelude.{◌≡◌, bytes_eq, ℕ, ◌<◌, ◌≤◌, ◌^◌, ◌+◌, ◌&&◌, Bool, true, false, List, [], ◌++◌, if◌then◌else◌, drop, length, map, nat_le, slice_index_or, take, Option, None, Some, is_some, MatchOption, MatchResult, Result, ◌⊎◌, ⊤}
use Rattle.std.specs.Cmp.Lexicographic.{slice_cmp}
use Rattle.std.specs.List.{AllByRecursion, IsDistinct, range_with_len}
use Rattle.std.specs.List.Sorted.{IsPermutation}
use Rattle.std.specs.Option.{option_map_or}
use Rattle.std.specs.Ordering.{nat_cmp, ordering_then}
use Rattle.std.specs.declared.cmp.Ordering.{Ordering}
use Rattle.ii_io.specs.Composite.{Body}
use Rattle.ii_io.specs.declared.faults.Fault.{Fault}
use Rattle.ii_io.specs.declared.faults.Fault.TheVariants.{OutOfMemory}
use Rattle.ii_base.specs.Paths.{has_zero}
use Rattle.ii_base.specs.Schema.{SchemaEntry}
use Rattle.ii_base.specs.Values.{json_key}
use Rattle.ii_definitions.specs.JsonKeys.{is_json, path_in}
use Rattle.ii_definitions.specs.Tokens.{IndexToken}
use Rattle.ii_json.specs.Paths.{AreDistinct, is_known, path_id}
use Rattle.ii_recorder.specs.Recorded.{RecorderState}
use Rattle.ii_definitions.specs.Fields.{option_of}
use Rattle.ii_definitions.specs.Postings.{field_count, kind_of, tokens_at}
use Rattle.ii_termdict.specs.ReadBack.{AreAscending}
use Rattle.ii_postings_writer.specs.FieldParts.{tokens_in}
use Rattle.ii_postings_writer.specs.IndexingContext.{TermIndex, recorder_of}
use Rattle.ii_postings_writer.specs.IndexingTerm.{field_bytes, field_in}
use Rattle.ii_postings_writer.specs.PostingsWriter.{PostingsWriterState}
use Rattle.ii_postings_writer.specs.Records.{Records}
use Rattle.ii_postings_writer.specs.SortedTerms.{AllMayBeWritten, SortedTerm, terms_in}

-- for each field of a schema, whether it holds JSON values
abbrev pub json_fields : List SchemaEntry → List Bool
json_fields entries = map (λ (e : SchemaEntry). is_json e.value_type) entries

-- whether a field holds JSON values
abbrev pub is_json_field : List Bool → ℕ → Bool
is_json_field flags field = slice_index_or flags field false

-- a path id as terms hold it: 4 bytes, big-endian
abbrev pub id_bytes : ℕ → List ℕ
id_bytes id = field_bytes id

-- a value under a path in a JSON field, as terms hold it
abbrev pub held_value : ℕ → List ℕ → List ℕ
held_value id typed_value = id_bytes id ++ typed_value

-- the path id in a term, if its field is a JSON field
abbrev pub path_id_in : List Bool → List ℕ → Option ℕ
path_id_in flags term = if nat_le 8 (length term) && is_json_field flags (field_in term) then Some (field_in (drop 4 term)) else None

-- the bytes of a term's field
abbrev pub front_of : List ℕ → List ℕ
front_of term = take 4 term

-- where the bytes after the field and the path id begin
abbrev pub value_place : Option ℕ → ℕ
value_place id = if is_some id then 8 else 4

-- the bytes after the field, and after the path id if there is one
abbrev pub behind_id : List Bool → List ℕ → List ℕ
behind_id flags term = drop (value_place (path_id_in flags term)) term

-- the rank of a path, or 0 if there is none
abbrev pub rank_of : List ℕ → Option ℕ → ℕ
rank_of ranks id = option_map_or (λ (i : ℕ). slice_index_or ranks i 0) id 0

-- the order in which terms are written: by field, then by the path's rank, then by the remaining bytes
abbrev pub held_cmp : List Bool → List ℕ → List ℕ → List ℕ → Ordering
held_cmp flags ranks s t =
    ordering_then (ordering_then (slice_cmp nat_cmp (front_of s) (front_of t)) (nat_cmp (rank_of ranks (path_id_in flags s)) (rank_of ranks (path_id_in flags t)))) (slice_cmp nat_cmp (behind_id flags s) (behind_id flags t))

-- the key of a term: its path id replaced by the path and byte 0
abbrev pub key_with : List (List ℕ) → Option ℕ → List ℕ → List ℕ
key_with paths None typed_value = typed_value
key_with paths (Some id) typed_value = json_key (slice_index_or paths id []) typed_value

-- the bytes of a term's field, then its key
abbrev pub resolved : List Bool → List (List ℕ) → List ℕ → List ℕ
resolved flags paths term = front_of term ++ key_with paths (path_id_in flags term) (behind_id flags term)

-- terms by their keys
abbrev pub resolved_terms : List Bool → List (List ℕ) → TermIndex → TermIndex
resolved_terms flags paths terms = map (λ (t : List ℕ × RecorderState). (resolved flags paths t.0, t.1)) terms

-- A value begins with the id of a known path.
pub record HoldsId (paths : List (List ℕ)) (value : List ℕ) : Type 0 where
  pub id : ℕ
  pub typed_value : List ℕ
  pub small : id < 2 ^ 32
  pub known : id < length paths
  pub is : value ≡ held_value id typed_value

-- Bytes of a term: 4 of its field, then a value, which in a JSON field begins with the id of a known path.
pub record IsHeldTerm (flags : List Bool) (paths : List (List ℕ)) (term : List ℕ) : Type 0 where
  pub field : ℕ
  pub value : List ℕ
  pub small : field < 2 ^ 32
  pub is : term ≡ field_bytes field ++ value
  pub ids : is_json_field flags field ≡ true → HoldsId paths value

-- No path holds byte 0.
abbrev pub AreClean : List (List ℕ) → Type 0
AreClean paths = AllByRecursion (λ (path : List ℕ). has_zero path ≡ false) paths

-- the bytes of a key after its path and byte 0
abbrev pub behind_path : List ℕ → List ℕ
behind_path key = drop (length (path_in key) + 1) key

-- a key as terms hold it: in a JSON field, with the id of its path
abbrev pub held_key : List Bool → List (List ℕ) → ℕ → List ℕ → List ℕ
held_key flags paths field key = if is_json_field flags field then held_value (path_id paths (path_in key)) (behind_path key) else key

-- a token under the key that terms hold
abbrev pub held_token : List Bool → List (List ℕ) → IndexToken → IndexToken
held_token flags paths t = record t { key = held_key flags paths t.field t.key }

-- A key begins with a known path.
pub record HasPath (paths : List (List ℕ)) (key : List ℕ) : Type 0 where
  pub known : is_known paths (path_in key) ≡ true
  pub whole : key ≡ json_key (path_in key) (behind_path key)

-- The key of a token in a JSON field begins with a known path.
abbrev pub IsKnownToken : List Bool → List (List ℕ) → IndexToken → Type 0
IsKnownToken flags paths t = is_json_field flags t.field ≡ true → HasPath paths t.key

-- Each term of a JSON field in a context holds the id of a known path.
abbrev pub HoldIds : List Bool → List (List ℕ) → TermIndex → Type 0
HoldIds flags paths terms =
    (field : ℕ) (key : List ℕ) → field < 2 ^ 32 → MatchOption (recorder_of terms (field_bytes field ++ key)) ⊤ (λ r. is_json_field flags field ≡ true → HoldsId paths key)

-- Terms are in the order of their keys.
pub record AreSorted (flags : List Bool) (paths : List (List ℕ)) (terms : TermIndex) : Type 0 where
  pub held : AllByRecursion (λ (t : List ℕ × RecorderState). IsHeldTerm flags paths t.0) terms
  pub distinct : IsDistinct bytes_eq (map (λ (t : List ℕ × RecorderState). t.0) terms)
  pub ascending : AreAscending (map (λ (t : List ℕ × RecorderState). t.0) (resolved_terms flags paths terms))

-- A context's terms may be written with these norms and hold ids of known paths, and no path holds byte 0.
pub record MayWriteTerms (entries : List SchemaEntry) (readers : List Body) (paths : List (List ℕ)) (terms : TermIndex) : Type 0 where
  pub may : AllMayBeWritten (length entries) readers terms
  pub ids : HoldIds (json_fields entries) paths terms
  pub clean : AreClean paths

-- A context and its writers have these tokens, whose keys the terms hold with path ids.
pub record HaveHeldTokens (entries : List SchemaEntry) (paths : List (List ℕ)) (terms : TermIndex) (writers : List PostingsWriterState) (ts : List IndexToken) : Type 0 where
  pub records : Records (λ field key. kind_of (option_of entries field) (tokens_at field key (map (held_token (json_fields entries) paths) ts))) terms (map (held_token (json_fields entries) paths) ts)
  pub counted : (field : ℕ) → field < length entries → tokens_in writers field ≡ field_count field ts
  pub known : AllByRecursion (λ (t : IndexToken). t.field < length entries) ts
  pub paths_known : AllByRecursion (IsKnownToken (json_fields entries) paths) ts

-- P holds, unless a call failed with `OutOfMemory`.
abbrev pub HaveUnlessMemory : {T : Type 0} → Type 0 → Result T Fault → Type 0
HaveUnlessMemory P result = MatchResult result (λ _. P) (λ e. (e ≡ OutOfMemory) ⊎ P)

-- The terms of each field of a schema, from those of a context in the order of their keys.
pub record AreFieldTerms (entries : List SchemaEntry) (paths : List (List ℕ)) (terms : TermIndex) (fields : List (List SortedTerm)) : Type 0 where
  pub sorted : TermIndex
  pub distinct : AreDistinct paths
  pub few_paths : length paths ≤ 2 ^ 32
  pub few_fields : length entries < 2 ^ 32
  pub moved : IsPermutation terms sorted
  pub in_order : AreSorted (json_fields entries) paths sorted
  pub are : fields ≡ map (λ (field : ℕ). terms_in field (resolved_terms (json_fields entries) paths sorted)) (range_with_len 0 (length entries))
