use Rattle.ii_codes.proofs.PrefixLemmas.{IsAddingOne}
use Rattle.ii_codes.proofs.packed.add_one.Given as goal

abbrev pub invariant-loop-k : goal.invariant-loop-k
invariant-loop-k l = IsAddingOne l.fits l.k l.initial.output l.output
