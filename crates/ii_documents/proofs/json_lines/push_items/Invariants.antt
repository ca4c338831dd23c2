use Rattle.std.proofs.Common.{◌≡◌, Some, true, drop}
use Rattle.std.specs.List.{slice_get}
use Rattle.serde_json.specs.View.{items_view}
use Rattle.ii_base.specs.Schema.{SchemaEntry}
use Rattle.ii_documents.specs.JsonLines.{items_calls}
use Rattle.ii_documents.proofs.AddingLemmas.{IsAdding}
use Rattle.ii_documents.proofs.json_lines.push_items.Given as goal

abbrev pub invariant-loop-item : goal.invariant-loop-item
invariant-loop-item l =
    (e : SchemaEntry) → slice_get l.schema l.field ≡ Some e → e.is_indexed ≡ true
    → IsAdding l.schema l.doc l.fn.calls.items l.calls.items (items_calls l.floats l.doc l.field e (items_view l.item-items))
    (items_calls l.floats l.doc l.field e (items_view (drop l.item-index l.item-items)))
