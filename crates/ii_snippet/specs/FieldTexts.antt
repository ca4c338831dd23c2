-- The texts of a JSON object in which a query wants words.
use Rattle.std.specs.Prelude.{ℕ, ◌+◌, ◌==◌, ◌&&◌, ◌++◌, Bool, false, true, List, [], ◌∷◌, map, Option, None, Some, unwrap_or, if◌then◌else◌}
use Rattle.std.specs.List.{list_any}
use Rattle.serde_json.specs.Data.{Data, Items, item, no_items}
use Rattle.serde_json.specs.Find.{as_array, as_str, get}
use Rattle.ii_base.specs.Schema.{SchemaEntry}
use Rattle.ii_base.specs.declared.schema.value_type.ValueType.{ValueType}
use Rattle.ii_base.specs.declared.schema.value_type.ValueType.TheVariants as types
use Rattle.ii_snippet.specs.declared.field_texts.FieldText.{FieldText}
use Rattle.ii_snippet.specs.Wanted.{Wanted, one_word, words_of_range}

-- a text of a field
pub record FieldTextState : Type 0 where
  pub field : ℕ
  pub text : List ℕ

-- the model of a text of a field
abbrev pub field_text : FieldText → FieldTextState
field_text t = record { field = t.field_id; text = t.text.now }

-- a text of a field with this number
abbrev pub in_field : ℕ → List ℕ → FieldTextState
in_field field text = record { field = field; text = text }

-- whether the fields of a type have texts
abbrev pub is_text : ValueType → Bool
is_text types.Str = true
is_text types.U64 = false
is_text types.I64 = false
is_text types.Bool = false
is_text types.Date = false
is_text types.Bytes = false
is_text types.IpAddr = false
is_text types.Json = false

-- whether what a query wants is of a field
abbrev pub is_of_field : ℕ → Wanted → Bool
is_of_field field (one_word term) = term.field == field
is_of_field field (words_of_range range) = range.prefix.field == field

-- a text as a list, if there is one
abbrev pub list_of : Option (List ℕ) → List (List ℕ)
list_of None = []
list_of (Some text) = text ∷ []

-- the texts among values, in order
abbrev pub texts_among : Items → List (List ℕ)
texts_among no_items = []
texts_among (item d ds) = list_of (as_str d) ++ texts_among ds

-- the texts of the value under the name of a field, if there is one: of an array those in it
abbrev pub texts_of : Option Data → List (List ℕ)
texts_of None = []
texts_of (Some d) = texts_among (unwrap_or (as_array d) (item d no_items))

-- the texts of a field in an object, if it is a text field of which words are wanted
abbrev pub field_texts : List Wanted → Data → ℕ → SchemaEntry → List FieldTextState
field_texts ws d field e = if is_text e.value_type && list_any (is_of_field field) ws then map (in_field field) (texts_of (get e.name d)) else []

-- the texts of an object in which words are wanted, by the fields numbered from one on
abbrev pub texts_from : List Wanted → Data → ℕ → List SchemaEntry → List FieldTextState
texts_from ws d field [] = []
texts_from ws d field (e ∷ es) = field_texts ws d field e ++ texts_from ws d (field + 1) es

-- the texts of an object in which words are wanted, in the order of the schema
abbrev pub wanted_texts : List Wanted → List SchemaEntry → Data → List FieldTextState
wanted_texts ws es d = texts_from ws d 0 es
