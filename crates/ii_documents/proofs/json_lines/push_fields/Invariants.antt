use Rattle.std.proofs.Common.{drop}
use Rattle.serde_json.specs.View.{members_view}
use Rattle.ii_documents.specs.JsonLines.{fields_calls}
use Rattle.ii_documents.proofs.AddingLemmas.{IsAdding}
use Rattle.ii_documents.proofs.json_lines.push_fields.Given as goal

abbrev pub invariant-loop-id : goal.invariant-loop-id
invariant-loop-id l =
    let ms = members_view l.members.entries in
    IsAdding l.schema l.doc l.fn.calls.items l.calls.items (fields_calls l.floats l.doc ms 0 l.schema) (fields_calls l.floats l.doc ms l.id (drop l.id l.schema))
