use Rattle.std.proofs.Common.{◌≡◌, take}
use Rattle.ii_search.specs.TopByCount.{least_count}
use Rattle.ii_search.proofs.most_frequent.least_of.Given as goal

abbrev pub invariant-loop-i : goal.invariant-loop-i
invariant-loop-i l = l.least ≡ least_count (take l.i l.best)
