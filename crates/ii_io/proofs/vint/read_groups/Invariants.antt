use Rattle.ii_io.proofs.VintLemmas.{IsReadingLong}
use Rattle.ii_io.proofs.vint.read_groups.Given as goal

abbrev pub invariant-loop-i : goal.invariant-loop-i
invariant-loop-i l = IsReadingLong l.most l.bytes l.i l.value l.place
