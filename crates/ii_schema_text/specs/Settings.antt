-- The settings in the table of a field, apart from its name.
use Rattle.std.specs.Prelude.{Bool, true, false, ◌&&◌, not, List, ℕ, bytes_eq, codes, if◌then◌else◌, Option, None, Some, ok_or, Result, Ok}
use Rattle.toml.specs.Data.{Data, as_bool, as_str, get}
use Rattle.ii_base.specs.declared.schema.index_record_option.IndexRecordOption.{IndexRecordOption}
use Rattle.ii_base.specs.declared.schema.index_record_option.IndexRecordOption.TheVariants.{Basic, WithFreqs, WithFreqsAndPositions}
use Rattle.ii_base.specs.declared.schema.value_type.ValueType.{ValueType}
use Rattle.ii_base.specs.declared.schema.value_type.ValueType.TheVariants as values
use Rattle.ii_schema_text.specs.declared.faults.FieldKey.{FieldKey}
use Rattle.ii_schema_text.specs.declared.faults.FieldKey.TheVariants as keys
use Rattle.ii_schema_text.specs.declared.field_type.FieldType.{FieldType}
use Rattle.ii_schema_text.specs.declared.field_type.FieldType.TheVariants as types
use Rattle.ii_schema_text.specs.declared.settings.Settings.{Settings}
use Rattle.ii_schema_text.specs.Steps.{◌>>=◌}

-- whether values of a type are texts
abbrev pub is_text : FieldType → Bool
is_text types.Text = true
is_text types.U64 = false
is_text types.I64 = false
is_text types.Bool = false
is_text types.Date = false
is_text types.Bytes = false
is_text types.IpAddr = false
is_text types.Json = false

-- whether values of a type are JSON values
abbrev pub is_json_type : FieldType → Bool
is_json_type types.Text = false
is_json_type types.U64 = false
is_json_type types.I64 = false
is_json_type types.Bool = false
is_json_type types.Date = false
is_json_type types.Bytes = false
is_json_type types.IpAddr = false
is_json_type types.Json = true

-- whether values of a type are or contain texts
abbrev pub has_texts : FieldType → Bool
has_texts types.Text = true
has_texts types.U64 = false
has_texts types.I64 = false
has_texts types.Bool = false
has_texts types.Date = false
has_texts types.Bytes = false
has_texts types.IpAddr = false
has_texts types.Json = true

-- the type with this name
unfoldable pub type_named : List ℕ → Option FieldType
type_named name =
    if bytes_eq name (codes "text") then Some types.Text
    else if bytes_eq name (codes "u64") then Some types.U64
    else if bytes_eq name (codes "i64") then Some types.I64
    else if bytes_eq name (codes "bool") then Some types.Bool
    else if bytes_eq name (codes "date") then Some types.Date
    else if bytes_eq name (codes "bytes") then Some types.Bytes
    else if bytes_eq name (codes "ip_addr") then Some types.IpAddr
    else if bytes_eq name (codes "json") then Some types.Json
    else None

-- the name of a type of values
abbrev pub type_name : ValueType → List ℕ
type_name values.Str = codes "text"
type_name values.U64 = codes "u64"
type_name values.I64 = codes "i64"
type_name values.Bool = codes "bool"
type_name values.Date = codes "date"
type_name values.Bytes = codes "bytes"
type_name values.IpAddr = codes "ip_addr"
type_name values.Json = codes "json"

-- the option with this name
unfoldable pub option_named : List ℕ → Option IndexRecordOption
option_named name =
    if bytes_eq name (codes "basic") then Some Basic
    else if bytes_eq name (codes "freq") then Some WithFreqs
    else if bytes_eq name (codes "position") then Some WithFreqsAndPositions
    else None

-- the result of a function of a text, if there is a text
abbrev pub named : {A : Type 0} → (List ℕ → Option A) → Option (List ℕ) → Option A
named by None = None
named by (Some name) = by name

-- the type of a field, which must be given
abbrev pub field_type_in : Option Data → Option FieldType
field_type_in None = None
field_type_in (Some d) = named type_named (as_str d)

-- what is kept of a term; the default includes positions
abbrev pub option_in : Bool → Option Data → Option IndexRecordOption
option_in allowed None = Some (if allowed then WithFreqsAndPositions else Basic)
option_in allowed (Some d) = if allowed then named option_named (as_str d) else None

-- a boolean, or its default
abbrev pub flag_in : Bool → Bool → Option Data → Option Bool
flag_in allowed default None = Some (allowed && default)
flag_in allowed default (Some d) = if allowed then as_bool d else None

-- the settings in a table, or its first key with a missing or invalid value
unfoldable pub settings_in : Data → Result Settings FieldKey
settings_in d = do
  value_type ← ok_or (field_type_in (get (codes "type") d)) keys.Type
  is_indexed ← ok_or (flag_in true true (get (codes "indexed") d)) keys.Indexed
  option ← ok_or (option_in (is_indexed && has_texts value_type) (get (codes "record") d)) keys.Record
  norms ← ok_or (flag_in (is_indexed && not (is_json_type value_type)) (is_text value_type) (get (codes "fieldnorms") d)) keys.FieldNorms
  dots ← ok_or (flag_in (is_indexed && is_json_type value_type) false (get (codes "expand_dots") d)) keys.ExpandDots
  stored ← ok_or (flag_in true false (get (codes "stored") d)) keys.Stored
  Ok (record { value_type = value_type; is_indexed = is_indexed; option = option; has_fieldnorms = norms; expands_dots = dots; is_stored = stored })
