use Rattle.std.proofs.Common.{◌≡◌}
use Rattle.serde_json.specs.View.{members_view}
use Rattle.ii_documents.specs.JsonLines.{unknown_name_in}
use Rattle.ii_documents.proofs.json_lines.unknown_key.Given as goal

abbrev pub invariant-loop-key : goal.invariant-loop-key
invariant-loop-key l = unknown_name_in l.schema (members_view l.members.entries) ≡ unknown_name_in l.schema (members_view l.key-iterator)
