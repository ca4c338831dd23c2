use Rattle.std.proofs.Common.{◌≡◌, drop}
use Rattle.std.specs.Prelude.{bytes_eq}
use Rattle.std.specs.List.{position_from}
use Rattle.ii_base.specs.Schema.{SchemaEntry}
use Rattle.ii_query_parser.specs.QueryTexts.{field_named}
use Rattle.ii_query_parser.proofs.literal.field_named.Given as goal

-- the field is one of those that are left
abbrev pub invariant-loop-id : goal.invariant-loop-id
invariant-loop-id l = field_named l.schema l.name ≡ position_from (λ (e : SchemaEntry). bytes_eq e.name l.name) l.id (drop l.id l.schema)
