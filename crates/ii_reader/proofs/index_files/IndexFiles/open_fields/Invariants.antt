use Rattle.std.proofs.Common.{◌≡◌, ℕ, map}
use Rattle.ii_base.specs.Schema.{SchemaEntry}
use Rattle.ii_reader.specs.OpenIndex.{all_or_first, field_readers, reader_of_field}
use Rattle.ii_reader.proofs.IndexLemmas.{in_front}
use Rattle.ii_reader.proofs.index_files.IndexFiles.open_fields.Given as goal

abbrev pub invariant-loop-field : goal.invariant-loop-field
invariant-loop-field l =
    field_readers l.self l.schema ≡ in_front l.readers.items (all_or_first (map (λ (f : ℕ × SchemaEntry). reader_of_field l.self f.0 f.1.option) l.field-iterator))
