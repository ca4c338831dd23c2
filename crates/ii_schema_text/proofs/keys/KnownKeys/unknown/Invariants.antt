use Rattle.std.proofs.Common.{◌≡◌}
use Rattle.toml.specs.View.{members_view}
use Rattle.ii_schema_text.specs.SchemaText.{unknown_key_in}
use Rattle.ii_schema_text.proofs.keys.KnownKeys.unknown.Given as goal

abbrev pub invariant-loop-key : goal.invariant-loop-key
invariant-loop-key l = unknown_key_in l.self (members_view l.table.entries) ≡ unknown_key_in l.self (members_view l.key-iterator)
