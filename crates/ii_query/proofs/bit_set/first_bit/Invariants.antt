use Rattle.std.proofs.Common.{◌-◌}
use Rattle.ii_query.proofs.SetLemmas.{IsSeeking}
use Rattle.ii_query.proofs.bit_set.first_bit.Given as goal

abbrev pub invariant-loop-doc : goal.invariant-loop-doc
invariant-loop-doc l = IsSeeking l.words l.from l.end l.doc

abbrev pub decreases-loop-doc : goal.decreases-loop-doc
decreases-loop-doc l = l.end - l.doc
