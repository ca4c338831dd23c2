use Rattle.ii_damage.proofs.KeyLemmas.{IsAsking}
use Rattle.ii_damage.proofs.keys.all_keep_counts.Given as goal

abbrev pub invariant-loop-ord : goal.invariant-loop-ord
invariant-loop-ord l = IsAsking l.entry l.reader l.terms l._ord
