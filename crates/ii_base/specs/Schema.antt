-- The fields of a schema, numbered from 0.
use Rattle.std.specs.Prelude.{ℕ, Bool, ◌&&◌, List}
use Rattle.ii_base.specs.declared.schema.value_type.ValueType.{ValueType}
use Rattle.ii_base.specs.declared.schema.index_record_option.IndexRecordOption.{IndexRecordOption}

pub record SchemaEntry : Type 0 where
  pub name : List ℕ
  pub value_type : ValueType
  pub option : IndexRecordOption
  pub is_indexed : Bool
  pub has_fieldnorms : Bool
  pub expands_dots : Bool

-- whether field norms are kept
abbrev pub keeps_norms : SchemaEntry → Bool
keeps_norms e = e.is_indexed && e.has_fieldnorms
