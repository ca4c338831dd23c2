use Rattle.std.proofs.Common.{◌≡◌, drop}
use Rattle.toml.specs.View.{items_view}
use Rattle.ii_schema_text.specs.SchemaText.{fields_from, without_fields}
use Rattle.ii_schema_text.proofs.schema_text.fields_from.Given as goal

abbrev pub invariant-loop-field : goal.invariant-loop-field
invariant-loop-field l = fields_from l.default (without_fields l.stores_source l.fn.unknown_keys) (items_view l.field-items) ≡ fields_from l.default l.read (items_view (drop l.field-index l.field-items))
