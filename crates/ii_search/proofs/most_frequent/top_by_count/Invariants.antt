use Rattle.std.proofs.Common.{length}
use Rattle.ii_search.proofs.TopWorkLemmas.{IsTopping}
use Rattle.ii_search.proofs.most_frequent.top_by_count.Given as goal

abbrev pub invariant-loop-doc : goal.invariant-loop-doc
invariant-loop-doc l = IsTopping l.n l.doc l.fn.cursor l.cursor l.best.items

abbrev pub decreases-loop-doc : goal.decreases-loop-doc
decreases-loop-doc l = length l.cursor.rest
