use Rattle.std.proofs.Common.{◌≡◌, ◌++◌, ℕ, map}
use Rattle.std.specs.List.{enumerate_from}
use Rattle.ii_base.specs.Schema.{SchemaEntry}
use Rattle.ii_fieldnorm.specs.Buffers.{empty_buffer}
use Rattle.ii_fieldnorm.proofs.writer.FieldNormsWriter.for_schema.Given as goal

abbrev pub invariant-loop-field : goal.invariant-loop-field
invariant-loop-field l =
    l.buffers.items ++ map (λ (f : ℕ × SchemaEntry). empty_buffer f.1) l._field-iterator ≡ map (λ (f : ℕ × SchemaEntry). empty_buffer f.1) (enumerate_from 0 l.schema)
