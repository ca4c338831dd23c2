use Rattle.std.proofs.Common.{◌≡◌, bytes_eq, drop}
use Rattle.std.specs.List.{list_any}
use Rattle.ii_base.specs.Schema.{SchemaEntry}
use Rattle.ii_schema_text.proofs.entry_table.has_name.Given as goal

abbrev pub invariant-loop-entry : goal.invariant-loop-entry
invariant-loop-entry l =
    list_any (λ (e : SchemaEntry). bytes_eq e.name l.name) l.entries
    ≡ list_any (λ (e : SchemaEntry). bytes_eq e.name l.name) (drop l.entry-index l.entries)
