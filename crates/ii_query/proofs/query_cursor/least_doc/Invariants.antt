use Rattle.std.proofs.Common.{◌≡◌}
use Rattle.ii_query.proofs.PartsLemmas.{SoundTo, least_to}
use Rattle.ii_query.proofs.query_cursor.least_doc.Given as goal

abbrev pub invariant-loop-i : goal.invariant-loop-i
invariant-loop-i g l = record {
  least : l.least ≡ least_to l.i l.parts.items;
  sound : SoundTo l.i l.parts.items;
}
