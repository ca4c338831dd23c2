use Rattle.std.proofs.Common.{◌-◌}
use Rattle.ii_bm25.proofs.ScoreLemmas.{IsSearching}
use Rattle.ii_bm25.proofs.bm25.least_count.Given as goal

abbrev pub invariant-loop-low : goal.invariant-loop-low
invariant-loop-low l = IsSearching l.weight l.length l.least l.low l.high

abbrev pub decreases-loop-low : goal.decreases-loop-low
decreases-loop-low l = l.high - l.low
