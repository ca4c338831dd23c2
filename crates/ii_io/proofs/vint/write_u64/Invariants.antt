use Rattle.ii_io.proofs.VintLemmas.{IsWriting}
use Rattle.ii_io.proofs.vint.write_u64.Given as goal

abbrev pub invariant-loop-left : goal.invariant-loop-left
invariant-loop-left l = IsWriting 9 l.fn.output l.output l.start l.end l.left l.value

abbrev pub decreases-loop-left : goal.decreases-loop-left
decreases-loop-left l = l.left
