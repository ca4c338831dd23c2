use Rattle.std.proofs.Common.{◌≡◌, ◌++◌, ℕ, map}
use Rattle.std.specs.List.{enumerate_from}
use Rattle.ii_base.specs.Schema.{SchemaEntry}
use Rattle.ii_indexing.specs.OpenPaths.{no_paths}
use Rattle.ii_indexing.proofs.open_paths.OpenPaths.new.Given as goal

abbrev pub invariant-loop-field : goal.invariant-loop-field
invariant-loop-field l = l.fields.items ++ map (λ (f : ℕ × SchemaEntry). no_paths) l._field-iterator ≡ map (λ (f : ℕ × SchemaEntry). no_paths) (enumerate_from 0 l.schema)
