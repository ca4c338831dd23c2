use Rattle.ii_damage.proofs.NormLemmas.{NoneBefore}
use Rattle.ii_damage.proofs.counts.other_norm.Given as goal

abbrev pub invariant-loop-doc : goal.invariant-loop-doc
invariant-loop-doc l = NoneBefore l.num_docs l.ids l.counts l.doc
