use Rattle.std.proofs.Common.{length}
use Rattle.ii_query.proofs.SetLemmas.{IsAdding}
use Rattle.ii_query.proofs.bit_set.BitSet.insert_all.Given as goal

abbrev pub invariant-loop-doc : goal.invariant-loop-doc
invariant-loop-doc g l = IsAdding l.fn.self l.self (g.D.DocSet.rest l.fn.docs) (g.D.DocSet.rest l.docs) l.doc

abbrev pub decreases-loop-doc : goal.decreases-loop-doc
decreases-loop-doc g l = length (g.D.DocSet.rest l.docs)
