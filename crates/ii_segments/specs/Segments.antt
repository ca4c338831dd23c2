-- An index of segments: the tokens of their living documents, numbered one after the other.
use Rattle.std.specs.Prelude.{◌≡◌, ℕ, ◌+◌, ◌<◌, ◌==◌, Bool, true, false, List, [], ◌∷◌, ◌++◌, filter, length, map, replicate, slice_get, slice_index, slice_index_or, unwrap_or}
use Rattle.std.specs.List.{AllByRecursion, range_with_len}
use Rattle.std.specs.List.Sorted.{IsNonDecreasingBy}
use Rattle.std.specs.Option.{option_map}
use Rattle.ii_base.specs.declared.schema.index_record_option.IndexRecordOption.{IndexRecordOption}
use Rattle.ii_base.specs.declared.schema.value_type.ValueType.{ValueType}
use Rattle.ii_base.specs.declared.schema.value_type.ValueType.TheVariants.{Str}
use Rattle.ii_base.specs.Entries.{Entry}
use Rattle.ii_base.specs.Schema.{SchemaEntry}
use Rattle.ii_alive.specs.Alive.{num_living, rank}
use Rattle.ii_definitions.specs.JsonKeys.{is_key_of_text}
use Rattle.ii_definitions.specs.Norms.{norm_ids}
use Rattle.ii_definitions.specs.Postings.{doc_count, key_postings}
use Rattle.ii_definitions.specs.Tokens.{IndexToken}

-- A segment: whether each of its documents is alive, and the tokens of all of them.
pub record Segment : Type 0 where
  pub alive : List Bool
  pub tokens : List IndexToken

-- whether a document is alive
abbrev pub is_living : List Bool → ℕ → Bool
is_living alive doc = slice_index_or alive doc false

-- a token under its document's number, given the number of the first living document
abbrev pub at_rank : ℕ → List Bool → IndexToken → IndexToken
at_rank base alive t = record t { doc = base + rank alive t.doc }

-- the tokens of the living documents
abbrev pub living_tokens : ℕ → Segment → List IndexToken
living_tokens base s = map (at_rank base s.alive) (filter (λ (t : IndexToken). is_living s.alive t.doc) s.tokens)

-- the tokens of segments, given the number of the first living document
abbrev pub tokens_from : ℕ → List Segment → List IndexToken
tokens_from base [] = []
tokens_from base (s ∷ ss) = living_tokens base s ++ tokens_from (base + num_living s.alive) ss

-- the number of documents of an index of segments
abbrev pub num_docs_of : List Segment → ℕ
num_docs_of [] = 0
num_docs_of (s ∷ ss) = num_living s.alive + num_docs_of ss

-- the tokens of an index of segments
abbrev pub index_tokens : List Segment → List IndexToken
index_tokens ss = tokens_from 0 ss

-- the one segment that several are merged into
abbrev pub merged : List Segment → Segment
merged ss = record { alive = replicate (num_docs_of ss) true; tokens = index_tokens ss }

-- the type of a field's values
abbrev pub type_of_field : List SchemaEntry → ℕ → ValueType
type_of_field entries field = unwrap_or (option_map (λ (e : SchemaEntry). e.value_type) (slice_get entries field)) Str

-- whether a key of a field is that of a text's word
abbrev pub is_key_of_text_in : List SchemaEntry → ℕ → List ℕ → Bool
is_key_of_text_in entries field key = is_key_of_text (type_of_field entries field) key

-- The tokens of a segment are in the order of documents, which it has, and in fields of the schema. They are of texts exactly where their keys are.
pub record AreSegmentTokens (entries : List SchemaEntry) (s : Segment) : Type 0 where
  pub ordered : IsNonDecreasingBy (λ (t : IndexToken). t.doc) s.tokens
  pub below : AllByRecursion (λ (t : IndexToken). t.doc < length s.alive) s.tokens
  pub known : AllByRecursion (λ (t : IndexToken). t.field < length entries) s.tokens
  pub typed : AllByRecursion (λ (t : IndexToken). t.of_text ≡ is_key_of_text_in entries t.field t.key) s.tokens

-- an entry under its document's number, given the number of the first living document
abbrev pub entry_at_rank : ℕ → List Bool → Entry → Entry
entry_at_rank base alive e = record e { doc = base + rank alive e.doc }

-- the entries of the living documents
abbrev pub living_entries : ℕ → List Bool → List Entry → List Entry
living_entries base alive es = map (entry_at_rank base alive) (filter (λ (e : Entry). is_living alive e.doc) es)

-- the postings of a key in each of several segments, those of the living documents, given the number of the first one
abbrev pub postings_from_segments : IndexRecordOption → ℕ → List ℕ → IndexRecordOption → ℕ → List Segment → List Entry
postings_from_segments option field key requested base [] = []
postings_from_segments option field key requested base (s ∷ ss) =
    living_entries base s.alive (key_postings option field key requested s.tokens) ++ postings_from_segments option field key requested (base + num_living s.alive) ss

-- the living documents, in order
abbrev pub living_docs : List Bool → List ℕ
living_docs alive = filter (is_living alive) (range_with_len 0 (length alive))

-- the number of tokens of each document in a field
abbrev pub doc_counts : ℕ → ℕ → List IndexToken → List ℕ
doc_counts num_docs field ts = map (λ (doc : ℕ). doc_count doc field ts) (range_with_len 0 num_docs)

-- the number of tokens of each living document in a field
abbrev pub living_counts : ℕ → Segment → List ℕ
living_counts field s = map (slice_index (doc_counts (length s.alive) field s.tokens)) (living_docs s.alive)

-- the norms of the living documents in a field
abbrev pub living_norms : ℕ → Segment → List ℕ
living_norms field s = map (slice_index (norm_ids (length s.alive) field s.tokens)) (living_docs s.alive)
