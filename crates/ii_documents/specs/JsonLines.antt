-- The index calls of a line of JSON, by a schema.
use Rattle.std.specs.Prelude.{◌≡◌, ◌+◌, ℕ, Bool, List, [], ◌∷◌, ◌++◌, bytes_eq, map, if◌then◌else◌, Option, None, Some, option_map, ok_or, Result, Ok, Err, ⊤, string_bytes}
use Rattle.std.specs.List.{AllByRecursion, list_any}
use Rattle.std.specs.Int.{bytes_high_first}
use Rattle.hex.specs.Hex.{decode_of}
use Rattle.serde_json.specs.Data.{Data, Items, Members, Num, array, boolean, item, member, no_items, no_members, null, number, object, string}
use Rattle.serde_json.specs.Find.{as_bool, as_i64, as_number, as_object, as_str, as_u64, get_member}
use Rattle.serde_json.specs.Read.{read}
use Rattle.serde_json.specs.Written.{has_float}
use Rattle.ii_base.specs.Json.{json_leaves}
use Rattle.ii_base.specs.Schema.{SchemaEntry}
use Rattle.ii_base.specs.Values.{flipped, number_of_bool, u64_bytes}
use Rattle.ii_base.specs.declared.schema.value_type.ValueType.{ValueType}
use Rattle.ii_base.specs.declared.schema.value_type.ValueType.TheVariants as types
use Rattle.ii_dates.specs.Dates.{date_in}
use Rattle.ii_definitions.specs.JsonKeys.{is_json}
use Rattle.ii_definitions.specs.Tokens.{Call, Content, leaves, text, value}
use Rattle.ii_definitions.specs.IndexCalls.{Takes, call_of, doc_of, field_of, type_of}
use Rattle.ii_definitions.specs.declared.index_call.IndexCall.{IndexCall}
use Rattle.ii_documents.specs.declared.faults.LineFault.{LineFault}
use Rattle.ii_documents.specs.declared.faults.LineFault.TheVariants as faults
use Rattle.ii_documents.specs.declared.faults.ValueFault.{ValueFault}
use Rattle.ii_documents.specs.declared.faults.ValueFault.TheVariants as value_faults
use Rattle.ii_schema_text.specs.declared.unknown_keys.UnknownKeys.{UnknownKeys}
use Rattle.ii_schema_text.specs.declared.unknown_keys.UnknownKeys.TheVariants.{Ignore, Refuse}
use Rattle.ii_term_text.specs.Addresses.{address_in}
use Rattle.ii_documents.specs.declared.floats.FloatNumbers.{FloatNumbers}
use Rattle.ii_documents.specs.declared.floats.FloatNumbers.TheVariants as float_numbers
use Rattle.ii_documents.specs.Floats.{without_floats}
use Rattle.ii_documents.specs.JsonValues.{json_from}
use Rattle.ii_documents.specs.Steps.{◌>>=◌}

-- Why a line is not a document.
pub data Refusal : Type 0 where
  too_many_documents : Refusal
  too_long : Refusal
  not_json : Refusal
  not_an_object : Refusal
  unknown_key : List ℕ → Refusal
  wrong_value : ℕ → ValueFault → Refusal

-- what an error says about the line, if it isn't an allocation failure
abbrev pub told_of_line : LineFault → Option Refusal
told_of_line faults.OutOfMemory = None
told_of_line faults.TooManyDocuments = Some too_many_documents
told_of_line faults.TooLong = Some too_long
told_of_line (faults.NotJson e) = Some not_json
told_of_line faults.NotAnObject = Some not_an_object
told_of_line (faults.UnknownKey key) = Some (unknown_key (string_bytes key))
told_of_line (faults.WrongValue field fault) = Some (wrong_value field fault)

-- An error says nothing about the line, or that this is its result.
abbrev pub TellsOfLine : {Y : Type 0} → Option Refusal → Result Y Refusal → Type 0
TellsOfLine None wanted = ⊤
TellsOfLine (Some refusal) wanted = wanted ≡ Err refusal

-- the result of a call, by a view, is as expected unless an allocation failed
abbrev pub AnswersFromLine : {X Y : Type 0} → (X → Y) → Result X LineFault → Result Y Refusal → Type 0
AnswersFromLine view (Ok x) wanted = wanted ≡ Ok (view x)
AnswersFromLine view (Err e) wanted = TellsOfLine (told_of_line e) wanted

-- a 64-bit number
abbrev pub number_content : ℕ → Content
number_content n = value (u64_bytes n)

-- an unsigned number
abbrev pub u64_content : Num → Result Content ValueFault
u64_content n = ok_or (option_map number_content (as_u64 n)) value_faults.OutOfRange

-- a signed number
abbrev pub i64_content : Num → Result Content ValueFault
i64_content n = ok_or (option_map (λ z. number_content (flipped z)) (as_i64 n)) value_faults.OutOfRange

-- bytes, as pairs of hexadecimal digits
abbrev pub bytes_from : {E : Type 0} → Result (List ℕ) E → Result Content ValueFault
bytes_from (Ok bytes) = Ok (value bytes)
bytes_from (Err e) = Err value_faults.NotHex

-- an address
abbrev pub address_content : List ℕ → Result Content ValueFault
address_content t = ok_or (option_map (λ n. value (bytes_high_first 16 n)) (address_in t)) value_faults.NotAnAddress

-- a date
abbrev pub date_content : List ℕ → Result Content ValueFault
date_content t = ok_or (option_map (λ z. number_content (flipped z)) (date_in t)) value_faults.NotADate

-- a JSON value: with a floating-point number it is refused, or such numbers are left out
abbrev pub json_content : FloatNumbers → Bool → Data → Result Content ValueFault
json_content float_numbers.Refuse expand_dots d = if has_float d then Err value_faults.Float else Ok (leaves (json_leaves expand_dots (json_from d)))
json_content float_numbers.Skip expand_dots d = Ok (leaves (json_leaves expand_dots (json_from (without_floats d))))

-- the content of a value for a field of a type
abbrev pub content_in : FloatNumbers → ValueType → Bool → Data → Result Content ValueFault
content_in floats types.Str dots d = ok_or (as_str d) value_faults.WrongType >>= λ t. Ok (text t)
content_in floats types.U64 dots d = ok_or (as_number d) value_faults.WrongType >>= u64_content
content_in floats types.I64 dots d = ok_or (as_number d) value_faults.WrongType >>= i64_content
content_in floats types.Bool dots d = ok_or (as_bool d) value_faults.WrongType >>= λ b. Ok (number_content (number_of_bool b))
content_in floats types.Bytes dots d = ok_or (as_str d) value_faults.WrongType >>= λ t. bytes_from (decode_of t)
content_in floats types.IpAddr dots d = ok_or (as_str d) value_faults.WrongType >>= address_content
content_in floats types.Json dots d = json_content floats dots d
content_in floats types.Date dots d = ok_or (as_str d) value_faults.WrongType >>= date_content

-- the call of a document with the content of a field
abbrev pub call_with_content : ℕ → ℕ → Result Content ValueFault → Result Call Refusal
call_with_content doc field (Ok content) = Ok (record { doc = doc; field = field; content = content })
call_with_content doc field (Err fault) = Err (wrong_value field fault)

-- the call of a document for a value of a field
abbrev pub value_call : FloatNumbers → ℕ → ℕ → SchemaEntry → Data → Result Call Refusal
value_call floats doc field e d = call_with_content doc field (content_in floats e.value_type e.expands_dots d)

-- The values of a field: none of null, several of an array, unless it is a JSON field.
abbrev pub values_of : Bool → Data → Items
values_of json null = no_items
values_of json (boolean b) = item (boolean b) no_items
values_of json (number n) = item (number n) no_items
values_of json (string s) = item (string s) no_items
values_of json (array ds) = if json then item (array ds) no_items else ds
values_of json (object ms) = item (object ms) no_items

-- the calls of a document for the values of a field, in order
abbrev pub items_calls : FloatNumbers → ℕ → ℕ → SchemaEntry → Items → Result (List Call) Refusal
items_calls floats doc field e no_items = Ok []
items_calls floats doc field e (item d ds) = do
  c ← value_call floats doc field e d
  cs ← items_calls floats doc field e ds
  Ok (c ∷ cs)

-- the calls for the value under the name of a field: none if it isn't indexed, or has no value
abbrev pub field_calls : FloatNumbers → ℕ → ℕ → SchemaEntry → Option Data → Result (List Call) Refusal
field_calls floats doc field e None = Ok []
field_calls floats doc field e (Some d) = if e.is_indexed then items_calls floats doc field e (values_of (is_json e.value_type) d) else Ok []

-- the calls of a document for fields numbered from one on, one after the other
abbrev pub fields_calls : FloatNumbers → ℕ → Members → ℕ → List SchemaEntry → Result (List Call) Refusal
fields_calls floats doc ms field [] = Ok []
fields_calls floats doc ms field (e ∷ es) = do
  cs ← field_calls floats doc field e (get_member e.name ms)
  more ← fields_calls floats doc ms (field + 1) es
  Ok (cs ++ more)

-- the first key that is no field's name
abbrev pub unknown_name_in : List SchemaEntry → Members → Option (List ℕ)
unknown_name_in es no_members = None
unknown_name_in es (member key d ms) = if list_any (λ (e : SchemaEntry). bytes_eq e.name key) es then unknown_name_in es ms else Some key

-- an error for an unknown key
abbrev pub knows_names : Option (List ℕ) → Result (Unit {0}) Refusal
knows_names None = Ok tt
knows_names (Some key) = Err (unknown_key key)

-- the calls of a document with these members
unfoldable pub members_calls : FloatNumbers → List SchemaEntry → ℕ → Members → Result (List Call) Refusal
members_calls floats es doc ms = do
  _ ← knows_names (unknown_name_in es ms)
  fields_calls floats doc ms 0 es

-- the calls of a document in a line
unfoldable pub line_calls : List SchemaEntry → ℕ → List ℕ → Result (List Call) Refusal
line_calls es doc line = do
  d ← ok_or (read line) not_json
  ms ← ok_or (as_object d) not_an_object
  members_calls float_numbers.Refuse es doc ms

-- the members whose keys are names of fields
abbrev pub named_members : List SchemaEntry → Members → Members
named_members es no_members = no_members
named_members es (member key d ms) = if list_any (λ (e : SchemaEntry). bytes_eq e.name key) es then member key d (named_members es ms) else named_members es ms

-- the members that are read: all, or those whose keys are names of fields
abbrev pub read_members : UnknownKeys → List SchemaEntry → Members → Members
read_members Refuse es ms = ms
read_members Ignore es ms = named_members es ms

-- the calls of a document in a line, where unknown keys are refused or ignored, and floating-point numbers refused or left out
unfoldable pub line_calls_by : UnknownKeys → FloatNumbers → List SchemaEntry → ℕ → List ℕ → Result (List Call) Refusal
line_calls_by unknown floats es doc line = do
  d ← ok_or (read line) not_json
  ms ← ok_or (as_object d) not_an_object
  members_calls floats es doc (read_members unknown es ms)

-- A call has this document, and its field takes its value.
pub record IsOf (es : List SchemaEntry) (doc : ℕ) (c : IndexCall) : Type 0 where
  pub doc_is : doc_of c ≡ doc
  pub takes : Takes es (field_of c) (type_of c)

-- These calls of a document were added.
pub record Adds (es : List SchemaEntry) (doc : ℕ) (old new : List IndexCall) (cs : List Call) : Type 0 where
  pub calls : map (call_of es) new ≡ map (call_of es) old ++ cs
  pub each : AllByRecursion (IsOf es doc) old → AllByRecursion (IsOf es doc) new

-- a call added what was expected, or returned the expected refusal, unless an allocation failed
abbrev pub AddsAs : List SchemaEntry → ℕ → List IndexCall → List IndexCall → Result (Unit {0}) LineFault → Result (List Call) Refusal → Type 0
AddsAs es doc old new (Ok _) wanted = (cs : List Call) × (wanted ≡ Ok cs) × Adds es doc old new cs
AddsAs es doc old new (Err e) wanted = TellsOfLine (told_of_line e) wanted
