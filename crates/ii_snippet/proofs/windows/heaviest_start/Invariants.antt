use Rattle.std.proofs.Common.{◌≡◌}
use Rattle.ii_snippet.specs.Windows.{IsFirstGreatest, window_weight}
use Rattle.ii_snippet.proofs.windows.heaviest_start.Given as goal

abbrev pub invariant-loop-start : goal.invariant-loop-start
invariant-loop-start l = IsFirstGreatest (window_weight l.limit l.tokens) l.start l.best × (l.greatest ≡ window_weight l.limit l.tokens l.best)
