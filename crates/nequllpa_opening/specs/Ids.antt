-- Whether documents can be printed by the values of the field `id`.
use Rattle.std.specs.Prelude.{ℕ, Bool, ◌&&◌, List, Option, Some, None, Result, Ok, Err, codes, if◌then◌else◌, nat_lt, slice_get}
use Rattle.std.specs.List.{find, range_with_len}
use Rattle.std.specs.Option.{option_map}
use Rattle.ii_io.specs.Composite.{Body, body_of}
use Rattle.ii_base.specs.Schema.{SchemaEntry}
use Rattle.ii_base.specs.declared.schema.value_type.ValueType.{ValueType}
use Rattle.ii_base.specs.declared.schema.value_type.ValueType.TheVariants as types
use Rattle.ii_fieldnorm.specs.Readers.{Norms, id_of_doc, norms_of_ids}
use Rattle.ii_query_parser.specs.QueryTexts.{field_named}
use Rattle.ii_segments.specs.Segments.{is_living}
use Rattle.nequllpa_opening.specs.declared.ids.NoIds.{NoIds}
use Rattle.nequllpa_opening.specs.declared.ids.NoIds.TheVariants.{JsonValues, NoField, NoNorms, SeveralWords}

-- the first living document with several words, whose norm id is above that of one word
abbrev pub first_above_one : Norms → List Bool → Option ℕ
first_above_one norms alive = find (λ doc. is_living alive doc && nat_lt 1 (id_of_doc norms doc)) (range_with_len 0 norms.num_docs)

-- the first living document with several words in a field of texts, if its norms are known
abbrev pub first_of_several : List Bool → Option Norms → Result (Option ℕ) NoIds
first_of_several alive None = Err NoNorms
first_of_several alive (Some norms) = Ok (first_above_one norms alive)

-- a field of texts, unless a living document has several words
abbrev pub unless_several : ℕ → Result (Option ℕ) NoIds → Result ℕ NoIds
unless_several field (Ok None) = Ok field
unless_several field (Ok (Some doc)) = Err (SeveralWords doc)
unless_several field (Err why) = Err why

-- a field by the type of its values
abbrev pub ids_of_type : ValueType → ℕ → List Bool → Option Norms → Result ℕ NoIds
ids_of_type types.Str field alive norms = unless_several field (first_of_several alive norms)
ids_of_type types.U64 field alive norms = Ok field
ids_of_type types.I64 field alive norms = Ok field
ids_of_type types.Bool field alive norms = Ok field
ids_of_type types.Date field alive norms = Ok field
ids_of_type types.Bytes field alive norms = Ok field
ids_of_type types.Json field alive norms = Err JsonValues
ids_of_type types.IpAddr field alive norms = Ok field

-- a field by its entry
abbrev pub ids_of_entry : ℕ → List Bool → Option Norms → Option SchemaEntry → Result ℕ NoIds
ids_of_entry field alive norms None = Err NoField
ids_of_entry field alive norms (Some e) = if e.is_indexed then ids_of_type e.value_type field alive norms else Err NoField

-- the field of a name, if it gives ids
abbrev pub ids_of_field : List SchemaEntry → List Bool → List Body → Option ℕ → Result ℕ NoIds
ids_of_field entries alive bodies None = Err NoField
ids_of_field entries alive bodies (Some field) = ids_of_entry field alive (option_map norms_of_ids (body_of field bodies)) (slice_get entries field)

-- the field `id`, or why documents can't be printed by its values
abbrev pub id_field_of : List SchemaEntry → List Bool → List Body → Result ℕ NoIds
id_field_of entries alive bodies = ids_of_field entries alive bodies (field_named entries (codes "id"))
