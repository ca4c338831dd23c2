use Rattle.std.proofs.Common.{◌≡◌, ◌+◌, ◌≤◌, drop}
use Rattle.serde_json.specs.View.{items_view, members_view}
use Rattle.ii_documents.specs.Floats.{counted, items_floats, members_floats}
use Rattle.ii_documents.proofs.floats.+count.Given as goal

abbrev pub invariant-count_in_items-loop-item : goal.invariant-count_in_items-loop-item
invariant-count_in_items-loop-item l =
    (l.total ≤ 18_446_744_073_709_551_615) × (counted (l.total + items_floats (items_view (drop l.item-index l.item-items))) ≡ counted (l.count + items_floats (items_view l.item-items)))

abbrev pub invariant-count_in_members-loop-key : goal.invariant-count_in_members-loop-key
invariant-count_in_members-loop-key l =
    (l.total ≤ 18_446_744_073_709_551_615) × (counted (l.total + members_floats (members_view l._key-iterator)) ≡ counted (l.count + members_floats (members_view l.members.entries)))
