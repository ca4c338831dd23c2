-- The schema that a TOML text describes.
use Rattle.std.specs.Prelude.{◌≡◌, Bool, true, false, ◌&&◌, ◌||◌, not, ◌^◌, ℕ, List, [], ◌∷◌, ◌++◌, bytes_eq, codes, if◌then◌else◌, length, nat_lt, Option, None, Some, ok_or, Result, Ok, Err, ⊤, string_bytes}
use Rattle.std.specs.List.{list_any}
use Rattle.toml.specs.Data.{Data, Items, Members, get, get_member, as_array, as_bool, as_str, item, no_items, member, no_members, table}
use Rattle.toml.specs.Parse.{parse_document}
use Rattle.ii_base.specs.Schema.{SchemaEntry}
use Rattle.ii_base.specs.declared.schema.index_record_option.IndexRecordOption.TheVariants.{Basic}
use Rattle.ii_base.specs.declared.schema.value_type.ValueType.{ValueType}
use Rattle.ii_base.specs.declared.schema.value_type.ValueType.TheVariants as values
use Rattle.ii_tokenizers.specs.declared.analyzer.Analyzer.{Analyzer}
use Rattle.ii_tokenizers.specs.declared.analyzer.Analyzer.TheVariants.{Ascii, Default, English, Raw, Whitespace}
use Rattle.ii_tokenizers.specs.declared.field_tokenizer.FieldTokenizer.{FieldTokenizer}
use Rattle.ii_tokenizers.specs.Analyzers.{with_stop_word}
use Rattle.ii_tokenizers.specs.Tokenizers.{analyzer_named, unicode_version, uses_unicode}
use Rattle.ii_schema_text.specs.declared.entry_table.ReadField.{ReadField}
use Rattle.ii_schema_text.specs.declared.faults.FieldKey.{FieldKey}
use Rattle.ii_schema_text.specs.declared.faults.FieldKey.TheVariants as keys
use Rattle.ii_schema_text.specs.declared.faults.SchemaFault.{SchemaFault}
use Rattle.ii_schema_text.specs.declared.faults.SchemaFault.TheVariants as faults
use Rattle.ii_schema_text.specs.declared.field_type.FieldType.{FieldType}
use Rattle.ii_schema_text.specs.declared.field_type.FieldType.TheVariants as types
use Rattle.ii_schema_text.specs.declared.keys.KnownKeys.{KnownKeys}
use Rattle.ii_schema_text.specs.declared.keys.KnownKeys.TheVariants.{OfText, OfField}
use Rattle.ii_schema_text.specs.declared.settings.Settings.{Settings}
use Rattle.ii_schema_text.specs.declared.unknown_keys.UnknownKeys.{UnknownKeys}
use Rattle.ii_schema_text.specs.declared.unknown_keys.UnknownKeys.TheVariants.{Ignore, Refuse}
use Rattle.ii_schema_text.specs.Settings.{has_texts, is_json_type, named, settings_in}
use Rattle.ii_schema_text.specs.Steps.{◌>>=◌}
use Rattle.ii_schema_text.specs.Stored.{StoredState}

-- A schema, the tokenizer of each of its fields, what is stored of documents, and what happens to their unknown keys.
pub record TextSchemaState : Type 0 where
  pub schema : List SchemaEntry
  pub tokenizers : List FieldTokenizer
  pub stored : StoredState
  pub unknown_keys : UnknownKeys

-- Why a text is not a valid schema.
pub data Refusal : Type 0 where
  not_toml : Refusal
  unknown_key : List ℕ → Refusal
  wrong_tokenizer : Refusal
  unknown_tokenizer : List ℕ → Refusal
  wrong_store_source : Refusal
  wrong_unknown : Refusal
  no_fields : Refusal
  too_many_fields : Refusal
  unknown_field_key : ℕ → List ℕ → Refusal
  wrong_key : ℕ → FieldKey → Refusal
  unknown_field_tokenizer : ℕ → List ℕ → Refusal
  wrong_unicode : Refusal
  other_unicode : List ℕ → Refusal

-- the refusal that a fault reports, if it is about the text
abbrev pub told_of_text : SchemaFault → Option Refusal
told_of_text faults.OutOfMemory = None
told_of_text (faults.NotToml e) = Some not_toml
told_of_text (faults.UnknownKey key) = Some (unknown_key (string_bytes key))
told_of_text faults.WrongTokenizer = Some wrong_tokenizer
told_of_text (faults.UnknownTokenizer name) = Some (unknown_tokenizer (string_bytes name))
told_of_text faults.WrongStoreSource = Some wrong_store_source
told_of_text faults.WrongUnknown = Some wrong_unknown
told_of_text faults.NoFields = Some no_fields
told_of_text faults.TooManyFields = Some too_many_fields
told_of_text (faults.UnknownFieldKey place key) = Some (unknown_field_key place (string_bytes key))
told_of_text (faults.WrongKey place key) = Some (wrong_key place key)
told_of_text (faults.UnknownFieldTokenizer place name) = Some (unknown_field_tokenizer place (string_bytes name))
told_of_text faults.WrongUnicode = Some wrong_unicode
told_of_text (faults.OtherUnicode version) = Some (other_unicode (string_bytes version))

-- the reported refusal, if any, is the expected result
abbrev pub TellsOfText : {Y : Type 0} → Option Refusal → Result Y Refusal → Type 0
TellsOfText None wanted = ⊤
TellsOfText (Some refusal) wanted = wanted ≡ Err refusal

-- the result, by its view, is the expected one, unless an allocation failed
abbrev pub AnswersFromText : {X Y : Type 0} → (X → Y) → Result X SchemaFault → Result Y Refusal → Type 0
AnswersFromText view (Ok x) wanted = wanted ≡ Ok (view x)
AnswersFromText view (Err e) wanted = TellsOfText (told_of_text e) wanted

-- whether a key is allowed in the text, or in a field's table
unfoldable pub is_known_key : KnownKeys → List ℕ → Bool
is_known_key OfText key = bytes_eq key (codes "field") || (bytes_eq key (codes "tokenizer") || (bytes_eq key (codes "unicode") || (bytes_eq key (codes "store_source") || bytes_eq key (codes "unknown"))))
is_known_key OfField key =
    bytes_eq key (codes "name") || (bytes_eq key (codes "type") || (bytes_eq key (codes "indexed")
    || (bytes_eq key (codes "record") || (bytes_eq key (codes "fieldnorms") || (bytes_eq key (codes "expand_dots") || (bytes_eq key (codes "tokenizer") || (bytes_eq key (codes "stop_words") || bytes_eq key (codes "stored"))))))))

-- the first unknown key
abbrev pub unknown_key_in : KnownKeys → Members → Option (List ℕ)
unknown_key_in known no_members = None
unknown_key_in known (member key d ms) = if is_known_key known key then unknown_key_in known ms else Some key

-- fails at an unknown key
abbrev pub knows_keys : (List ℕ → Refusal) → Option (List ℕ) → Result (Unit {0}) Refusal
knows_keys refusal None = Ok tt
knows_keys refusal (Some key) = Err (refusal key)

-- a name, if it isn't empty
abbrev pub not_empty : List ℕ → Option (List ℕ)
not_empty [] = None
not_empty (byte ∷ bytes) = Some (byte ∷ bytes)

-- the name of a field, if no earlier field has it
abbrev pub name_in : List SchemaEntry → Option Data → Option (List ℕ)
name_in before None = None
name_in before (Some d) = named (λ name. if list_any (λ (e : SchemaEntry). bytes_eq e.name name) before then None else not_empty name) (as_str d)

-- the type of an entry
abbrev pub value_type_of : FieldType → ValueType
value_type_of types.Text = values.Str
value_type_of types.U64 = values.U64
value_type_of types.I64 = values.I64
value_type_of types.Bool = values.Bool
value_type_of types.Date = values.Date
value_type_of types.Bytes = values.Bytes
value_type_of types.IpAddr = values.IpAddr
value_type_of types.Json = values.Json

-- the entry of a field with these settings
abbrev pub entry_with : List ℕ → Settings → SchemaEntry
entry_with name s = record {
  name = name;
  value_type = value_type_of s.value_type;
  option = if s.is_indexed && has_texts s.value_type then s.option else Basic;
  is_indexed = s.is_indexed;
  has_fieldnorms = (s.is_indexed && not (is_json_type s.value_type)) && s.has_fieldnorms;
  expands_dots = (s.is_indexed && is_json_type s.value_type) && s.expands_dots;
}

-- the members of a table
abbrev pub members_in : Data → Members
members_in (table ms) = ms
members_in _ = no_members

-- converts the error of a key to the error of a field
abbrev pub right : {A : Type 0} → ℕ → Result A FieldKey → Result A Refusal
right place (Ok x) = Ok x
right place (Err key) = Err (wrong_key place key)

-- A field: its entry, and whether its member is stored.
pub record FieldState : Type 0 where
  pub entry : SchemaEntry
  pub is_stored : Bool

-- the model of a field that was read
abbrev pub read_field : ReadField → FieldState
read_field f = record { entry = f.entry; is_stored = f.is_stored }

-- a field with this name and these settings
abbrev pub field_with : List ℕ → Settings → FieldState
field_with name s = record { entry = entry_with name s; is_stored = s.is_stored }

-- the field of a table after others
unfoldable pub entry_in : List SchemaEntry → Data → Result FieldState Refusal
entry_in before d = do
  _ ← knows_keys (unknown_field_key (length before)) (unknown_key_in OfField (members_in d))
  name ← ok_or (name_in before (get (codes "name") d)) (wrong_key (length before) keys.Name)
  settings ← right (length before) (settings_in d)
  Ok (field_with name settings)

-- whether values of a type are or contain texts
abbrev pub are_or_have_texts : ValueType → Bool
are_or_have_texts values.Str = true
are_or_have_texts values.U64 = false
are_or_have_texts values.I64 = false
are_or_have_texts values.Bool = false
are_or_have_texts values.Date = false
are_or_have_texts values.Bytes = false
are_or_have_texts values.IpAddr = false
are_or_have_texts values.Json = true

-- whether a field of the schema is indexed and has texts
abbrev pub takes_texts : SchemaEntry → Bool
takes_texts e = e.is_indexed && are_or_have_texts e.value_type

-- the tokenizer that a field names
abbrev pub tokenizer_named : ℕ → Option (List ℕ) → Result Analyzer Refusal
tokenizer_named place None = Err (wrong_key place keys.Tokenizer)
tokenizer_named place (Some name) = ok_or (analyzer_named name) (unknown_field_tokenizer place name)

-- the tokenizer of a field: the one that it names, which only a field with texts may, or that of fields that name none
abbrev pub tokenizer_in : ℕ → Analyzer → Bool → Option Data → Result Analyzer Refusal
tokenizer_in place otherwise allowed None = Ok (if allowed then otherwise else Ascii)
tokenizer_in place otherwise allowed (Some d) = if allowed then tokenizer_named place (as_str d) else Err (wrong_key place keys.Tokenizer)

-- whether a tokenizer may have stop words: that of English
abbrev pub takes_stop_words : Analyzer → Bool
takes_stop_words Ascii = false
takes_stop_words Raw = false
takes_stop_words Whitespace = false
takes_stop_words Default = false
takes_stop_words English = true

-- stop words and those of items in folded case, if each item is a text
abbrev pub stop_words_from : List (List ℕ) → Items → Option (List (List ℕ))
stop_words_from before no_items = Some before
stop_words_from before (item d ds) = named (λ word. stop_words_from (with_stop_word before word) ds) (as_str d)

-- the stop words of a list of texts
abbrev pub stop_words_listed : Option Items → Option (List (List ℕ))
stop_words_listed None = None
stop_words_listed (Some items) = stop_words_from [] items

-- the stop words of a field with a tokenizer: those of a list of texts, which only a field with English words may have, or none
abbrev pub stop_words_in : Analyzer → Option Data → Option (List (List ℕ))
stop_words_in tokenizer None = Some []
stop_words_in tokenizer (Some d) = if takes_stop_words tokenizer then stop_words_listed (as_array d) else None

-- the fields, and one more
abbrev pub with_field : TextSchemaState → FieldState → FieldTokenizer → TextSchemaState
with_field s f tokenizer = record s { schema = s.schema ++ f.entry ∷ []; tokenizers = s.tokenizers ++ tokenizer ∷ []; stored = record s.stored { fields = s.stored.fields ++ f.is_stored ∷ [] } }

-- fields and the one that a table describes
unfoldable pub field_in : Analyzer → TextSchemaState → Data → Result TextSchemaState Refusal
field_in otherwise before d = do
  f ← entry_in before.schema d
  tokenizer ← tokenizer_in (length before.schema) otherwise (takes_texts f.entry) (get (codes "tokenizer") d)
  stops ← ok_or (stop_words_in tokenizer (get (codes "stop_words") d)) (wrong_key (length before.schema) keys.StopWords)
  Ok (with_field before f (record { analyzer = tokenizer; stop_words = stops }))

-- fields and those of more tables
abbrev pub fields_from : Analyzer → TextSchemaState → Items → Result TextSchemaState Refusal
fields_from otherwise before no_items = Ok before
fields_from otherwise before (item d ds) = field_in otherwise before d >>= λ s. fields_from otherwise s ds

-- no fields, of a text that stores complete lines or doesn't, and says what happens to unknown keys
abbrev pub without_fields : Bool → UnknownKeys → TextSchemaState
without_fields stores unknown = record { schema = []; tokenizers = []; stored = record { is_line = stores; fields = [] }; unknown_keys = unknown }

-- fails if there are 2^32 fields or more
abbrev pub few : TextSchemaState → Result TextSchemaState Refusal
few s = if nat_lt (length s.schema) (2 ^ 32) then Ok s else Err too_many_fields

-- the tables of the fields
abbrev pub fields_in : Option Data → Option Items
fields_in None = None
fields_in (Some d) = as_array d

-- the tokenizer that a text names
abbrev pub default_named : Option (List ℕ) → Result Analyzer Refusal
default_named None = Err wrong_tokenizer
default_named (Some name) = ok_or (analyzer_named name) (unknown_tokenizer name)

-- the tokenizer of fields that name none: that of the text, or the ASCII one, which indexes have whose schema names none
abbrev pub default_in : Option Data → Result Analyzer Refusal
default_in None = Ok Ascii
default_in (Some d) = default_named (as_str d)

-- whether complete lines are stored: as a text says, or they aren't
abbrev pub stores_source_in : Option Data → Result Bool Refusal
stores_source_in None = Ok false
stores_source_in (Some d) = ok_or (as_bool d) wrong_store_source

-- what a text names
unfoldable pub unknown_keys_named : List ℕ → Option UnknownKeys
unknown_keys_named name =
    if bytes_eq name (codes "refuse") then Some Refuse
    else if bytes_eq name (codes "ignore") then Some Ignore
    else None

-- what happens to unknown keys: what a text names, or documents with one are refused
abbrev pub unknown_keys_in : Option Data → Result UnknownKeys Refusal
unknown_keys_in None = Ok Refuse
unknown_keys_in (Some d) = ok_or (named unknown_keys_named (as_str d)) wrong_unknown

-- fails if a tokenizer follows another version of Unicode than this one
abbrev pub same_unicode : List FieldTokenizer → Option (List ℕ) → Result (Unit {0}) Refusal
same_unicode tokenizers None = Err wrong_unicode
same_unicode tokenizers (Some version) = if list_any (λ (t : FieldTokenizer). uses_unicode t.analyzer) tokenizers && not (bytes_eq version unicode_version) then Err (other_unicode version) else Ok tt

-- fails if a tokenizer follows another version of Unicode than the one that the text names, if it names one
abbrev pub unicode_in : List FieldTokenizer → Option Data → Result (Unit {0}) Refusal
unicode_in tokenizers None = Ok tt
unicode_in tokenizers (Some d) = same_unicode tokenizers (as_str d)

-- the schema that a table describes, with its tokenizers, what is stored, and what happens to unknown keys
unfoldable pub table_schema : Members → Result TextSchemaState Refusal
table_schema ms = do
  _ ← knows_keys unknown_key (unknown_key_in OfText ms)
  otherwise ← default_in (get_member (codes "tokenizer") ms)
  stores ← stores_source_in (get_member (codes "store_source") ms)
  unknown ← unknown_keys_in (get_member (codes "unknown") ms)
  fields ← ok_or (fields_in (get_member (codes "field") ms)) no_fields
  read ← fields_from otherwise (without_fields stores unknown) fields
  s ← few read
  _ ← unicode_in s.tokenizers (get_member (codes "unicode") ms)
  Ok s

-- the table of a text
abbrev pub text_table : List ℕ → Result Members Refusal
text_table text = ok_or (parse_document text) not_toml

-- the schema that a text describes, with its tokenizers, what is stored, and what happens to unknown keys
unfoldable pub tokenized_schema : List ℕ → Result TextSchemaState Refusal
tokenized_schema text = text_table text >>= table_schema

-- the schema that a text describes
unfoldable pub text_schema : List ℕ → Result (List SchemaEntry) Refusal
text_schema text = tokenized_schema text >>= λ s. Ok s.schema

-- a line, unless a key is there
abbrev pub line_unless : Option Data → List ℕ → List ℕ
line_unless None line = line
line_unless (Some d) line = []

-- the text of the schema of a new index: fields that name no tokenizer have the default one, by this version of Unicode
unfoldable pub new_schema_text : List ℕ → Result (List ℕ) Refusal
new_schema_text text = do
  ms ← text_table text
  Ok (line_unless (get_member (codes "tokenizer") ms) (codes "tokenizer = \"default\"\n") ++ (line_unless (get_member (codes "unicode") ms) (codes "unicode = \"18.0.0\"\n") ++ text))
