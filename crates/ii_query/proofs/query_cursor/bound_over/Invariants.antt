use Rattle.std.proofs.Common.{◌≡◌, ◌-◌, ◌^◌, min}
use Rattle.ii_query.proofs.HintLemmas.{HintedTo, hints_to}
use Rattle.ii_query.proofs.query_cursor.bound_over.Given as goal

abbrev pub invariant-loop-i : goal.invariant-loop-i
invariant-loop-i g l = record {
  sum : l.sum ≡ min (hints_to l.i l.parts.items) (2 ^ 32 - 1);
  hinted : HintedTo l.i l.parts.items;
}
