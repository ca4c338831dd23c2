use Rattle.std.proofs.Common.{◌≡◌, ◌+◌, ◌≤◌, drop, sum_by}
use Rattle.serde_json.specs.Find.{get_member}
use Rattle.serde_json.specs.View.{members_view}
use Rattle.ii_base.specs.Schema.{SchemaEntry}
use Rattle.ii_documents.specs.Floats.{counted, field_floats}
use Rattle.ii_documents.proofs.floats.fields_floats.Given as goal

abbrev pub invariant-loop-id : goal.invariant-loop-id
invariant-loop-id l =
    let floats = λ (e : SchemaEntry). field_floats e (get_member e.name (members_view l.members.entries)) in
    (l.count ≤ 18_446_744_073_709_551_615) × (counted (l.count + sum_by floats (drop l.id l.schema)) ≡ counted (sum_by floats l.schema))
