-- What the fields of a schema record.
use Rattle.std.specs.Prelude.{ℕ, List, slice_get, unwrap_or}
use Rattle.std.specs.Option.{option_map}
use Rattle.ii_base.specs.Schema.{SchemaEntry}
use Rattle.ii_base.specs.declared.schema.index_record_option.IndexRecordOption.{IndexRecordOption}
use Rattle.ii_base.specs.declared.schema.index_record_option.IndexRecordOption.TheVariants.{Basic}

-- what a field of the schema records
abbrev pub option_of : List SchemaEntry → ℕ → IndexRecordOption
option_of entries field = unwrap_or (option_map (λ (e : SchemaEntry). e.option) (slice_get entries field)) Basic
