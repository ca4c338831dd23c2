use Rattle.std.proofs.Common.{◌≡◌, bytes_eq, drop}
use Rattle.std.specs.List.{list_any}
use Rattle.ii_base.specs.Schema.{SchemaEntry}
use Rattle.ii_documents.proofs.json_lines.has_name.Given as goal

abbrev pub invariant-loop-id : goal.invariant-loop-id
invariant-loop-id l =
    list_any (λ (e : SchemaEntry). bytes_eq e.name l.name) l.schema
    ≡ list_any (λ (e : SchemaEntry). bytes_eq e.name l.name) (drop l.id l.schema)
