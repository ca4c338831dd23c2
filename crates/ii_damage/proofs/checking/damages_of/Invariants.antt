use Rattle.ii_damage.proofs.TotalsLemmas.{IsCounting}
use Rattle.ii_damage.proofs.checking.damages_of.Given as goal

abbrev pub invariant-loop-id : goal.invariant-loop-id
invariant-loop-id l = IsCounting l.schema l.files l.id l.found.items l.fn.totals l.totals
