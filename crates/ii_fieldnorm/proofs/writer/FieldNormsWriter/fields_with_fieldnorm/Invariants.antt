use Rattle.std.proofs.Common.{◌≡◌, ◌++◌, ℕ, map, filter}
use Rattle.ii_base.specs.Schema.{SchemaEntry, keeps_norms}
use Rattle.ii_fieldnorm.specs.Buffers.{norm_fields}
use Rattle.ii_fieldnorm.proofs.writer.FieldNormsWriter.fields_with_fieldnorm.Given as goal

abbrev pub invariant-loop-field : goal.invariant-loop-field
invariant-loop-field l =
    l.fields.items ++ map (λ (f : ℕ × SchemaEntry). f.0) (filter (λ (f : ℕ × SchemaEntry). keeps_norms f.1) l.field-iterator) ≡ norm_fields l.schema
