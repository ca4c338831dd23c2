-- The content of an index call.
use Rattle.std.specs.Prelude.{◌≡◌, ℕ, ◌<◌, Bool, true, false, List, Some, slice_get, string_bytes, unwrap_or}
use Rattle.std.specs.Option.{option_map}
use Rattle.std.specs.List.{AllByRecursion}
use Rattle.std.specs.List.Sorted.{IsNonDecreasingBy}
use Rattle.std.specs.Int.{bytes_high_first}
use Rattle.ii_base.specs.Schema.{SchemaEntry}
use Rattle.ii_base.specs.Values.{flipped, number_of_bool, u64_bytes}
use Rattle.ii_base.specs.declared.schema.value_type.ValueType.{ValueType}
use Rattle.ii_base.specs.declared.schema.value_type.ValueType.TheVariants as types
use Rattle.ii_base.specs.Json.{json_leaves, json_of}
use Rattle.ii_definitions.specs.Tokens.{Call, Content, leaves, text, words, value}
use Rattle.ii_definitions.specs.declared.index_call.IndexCall.{IndexCall}
use Rattle.ii_definitions.specs.declared.index_call.IndexCall.TheVariants.{Text, Tokens, U64, I64, Bool as Truth, Date, Bytes, Ip, Json}

-- the number that represents a number, a boolean or a date, or 0 for any other value
abbrev pub number_in : IndexCall → ℕ
number_in (Text doc field t) = 0
number_in (Tokens doc field tokens) = 0
number_in (U64 doc field n) = n
number_in (I64 doc field n) = flipped n
number_in (Truth doc field b) = number_of_bool b
number_in (Date doc field date) = flipped date.0
number_in (Bytes doc field bytes) = 0
number_in (Ip doc field address) = 0
number_in (Json doc field v) = 0

-- the document of a call
abbrev pub doc_of : IndexCall → ℕ
doc_of (Text doc field t) = doc
doc_of (Tokens doc field tokens) = doc
doc_of (U64 doc field n) = doc
doc_of (I64 doc field n) = doc
doc_of (Truth doc field b) = doc
doc_of (Date doc field date) = doc
doc_of (Bytes doc field bytes) = doc
doc_of (Ip doc field address) = doc
doc_of (Json doc field v) = doc

-- the field of a call
abbrev pub field_of : IndexCall → ℕ
field_of (Text doc field t) = field
field_of (Tokens doc field tokens) = field
field_of (U64 doc field n) = field
field_of (I64 doc field n) = field
field_of (Truth doc field b) = field
field_of (Date doc field date) = field
field_of (Bytes doc field bytes) = field
field_of (Ip doc field address) = field
field_of (Json doc field v) = field

-- what is to be indexed, with or without expanding the dots of keys
abbrev pub content_of : Bool → IndexCall → Content
content_of expand_dots (Text doc field t) = text (string_bytes t)
content_of expand_dots (Tokens doc field tokens) = words tokens.to_come
content_of expand_dots (U64 doc field n) = value (u64_bytes n)
content_of expand_dots (I64 doc field n) = value (u64_bytes (flipped n))
content_of expand_dots (Truth doc field b) = value (u64_bytes (number_of_bool b))
content_of expand_dots (Date doc field date) = value (u64_bytes (flipped date.0))
content_of expand_dots (Bytes doc field bytes) = value bytes.items
content_of expand_dots (Ip doc field address) = value (bytes_high_first 16 address)
content_of expand_dots (Json doc field v) = leaves (json_leaves expand_dots (json_of v))

-- whether the dots of keys are expanded in a field of a schema
abbrev pub expands_dots_in : List SchemaEntry → ℕ → Bool
expands_dots_in entries field = unwrap_or (option_map (λ (e : SchemaEntry). e.expands_dots) (slice_get entries field)) false

-- a call to a field, with or without expanding dots
abbrev pub call_with : Bool → IndexCall → Call
call_with expand_dots c = record { doc = doc_of c; field = field_of c; content = content_of expand_dots c }

-- what a call means by a schema
abbrev pub call_of : List SchemaEntry → IndexCall → Call
call_of entries c = call_with (expands_dots_in entries (field_of c)) c

-- the type of a call's value
abbrev pub type_of : IndexCall → ValueType
type_of (Text doc field t) = types.Str
type_of (Tokens doc field tokens) = types.Str
type_of (U64 doc field n) = types.U64
type_of (I64 doc field n) = types.I64
type_of (Truth doc field b) = types.Bool
type_of (Date doc field date) = types.Date
type_of (Bytes doc field bytes) = types.Bytes
type_of (Ip doc field address) = types.IpAddr
type_of (Json doc field v) = types.Json

-- A field of a schema is indexed and has values of this type.
pub record Takes (entries : List SchemaEntry) (field : ℕ) (value_type : ValueType) : Type 0 where
  pub entry : SchemaEntry
  pub found : slice_get entries field ≡ Some entry
  pub indexed : entry.is_indexed ≡ true
  pub typed : entry.value_type ≡ value_type

-- A call is valid: its document is less than `num_docs`, and its field takes its value.
pub record MayBeIndexed (entries : List SchemaEntry) (num_docs : ℕ) (c : IndexCall) : Type 0 where
  pub below : doc_of c < num_docs
  pub takes : Takes entries (field_of c) (type_of c)

-- Calls are valid one after the other: document ids don't decrease.
pub record MayAllBeIndexed (entries : List SchemaEntry) (num_docs : ℕ) (calls : List IndexCall) : Type 0 where
  pub each : AllByRecursion (MayBeIndexed entries num_docs) calls
  pub ordered : IsNonDecreasingBy doc_of calls
