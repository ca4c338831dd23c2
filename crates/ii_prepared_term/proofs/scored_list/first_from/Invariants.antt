use Rattle.std.proofs.Common.{◌≡◌, ◌≤◌, ◌-◌, drop, length}
use Rattle.ii_docset.specs.Cursor.{from_doc}
use Rattle.ii_prepared_term.specs.ScoredLists.{entries_of}
use Rattle.ii_prepared_term.proofs.scored_list.first_from.Given as goal

abbrev pub decreases-loop-place : goal.decreases-loop-place
decreases-loop-place l = length l.docs.items - l.place

abbrev pub invariant-loop-place : goal.invariant-loop-place
invariant-loop-place l = record {
  within : l.place ≤ length l.docs.items;
  same : from_doc l.target (drop l.place (entries_of l.docs.items)) ≡ from_doc l.target (drop l.from (entries_of l.docs.items));
}
