use Rattle.std.proofs.Common.{◌≡◌, ◌++◌, ℕ, map}
use Rattle.std.specs.List.{enumerate_from}
use Rattle.ii_base.specs.Schema.{SchemaEntry}
use Rattle.ii_indexing.specs.OpenDocuments.{empty_document}
use Rattle.ii_indexing.proofs.open_documents.OpenDocuments.new.Given as goal

abbrev pub invariant-loop-field : goal.invariant-loop-field
invariant-loop-field l =
    l.documents.items ++ map (λ (f : ℕ × SchemaEntry). empty_document 0) l._field-iterator ≡ map (λ (f : ℕ × SchemaEntry). empty_document 0) (enumerate_from 0 l.schema)
