use Rattle.std.proofs.Common.{◌≡◌, ◌++◌, ℕ, map}
use Rattle.std.specs.List.{enumerate_from}
use Rattle.ii_base.specs.Schema.{SchemaEntry}
use Rattle.ii_definitions.specs.JsonKeys.{is_json}
use Rattle.ii_postings_writer.proofs.postings_writer.json_fields.Given as goal

abbrev pub invariant-loop-field : goal.invariant-loop-field
invariant-loop-field l =
    l.flags.items ++ map (λ (f : ℕ × SchemaEntry). is_json f.1.value_type) l._field-iterator ≡ map (λ (f : ℕ × SchemaEntry). is_json f.1.value_type) (enumerate_from 0 l.schema)
