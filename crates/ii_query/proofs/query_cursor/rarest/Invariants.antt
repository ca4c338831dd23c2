use Rattle.ii_query.proofs.HintLemmas.{LeastTo}
use Rattle.ii_query.proofs.PartsLemmas.{SoundTo}
use Rattle.ii_query.proofs.query_cursor.rarest.Given as goal

abbrev pub invariant-loop-i : goal.invariant-loop-i
invariant-loop-i g l = record {
  least : LeastTo l.i l.at l.least l.cursors.items;
  sound : SoundTo l.i l.cursors.items;
}
