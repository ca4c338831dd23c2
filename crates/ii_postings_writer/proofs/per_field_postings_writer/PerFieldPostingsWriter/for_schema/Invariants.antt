use Rattle.std.proofs.Common.{◌≡◌, ◌++◌, ℕ, map}
use Rattle.std.specs.List.{enumerate_from}
use Rattle.ii_base.specs.Schema.{SchemaEntry}
use Rattle.ii_postings_writer.specs.PostingsWriter.{writer_of}
use Rattle.ii_postings_writer.specs.PostingsWriterKind.{state_of_kind}
use Rattle.ii_postings_writer.proofs.per_field_postings_writer.PerFieldPostingsWriter.for_schema.Given as goal

abbrev pub invariant-loop-field : goal.invariant-loop-field
invariant-loop-field l =
    map state_of_kind l.writers.items ++ map (λ (f : ℕ × SchemaEntry). writer_of f.1) l._field-iterator ≡ map (λ (f : ℕ × SchemaEntry). writer_of f.1) (enumerate_from 0 l.schema)
