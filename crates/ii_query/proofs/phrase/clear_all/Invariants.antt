use Rattle.std.proofs.Common.{◌≡◌, ◌++◌, drop, map, take}
use Rattle.ii_query.specs.Phrase.{unread}
use Rattle.ii_query.proofs.phrase.clear_all.Given as goal

abbrev pub invariant-loop-i : goal.invariant-loop-i
invariant-loop-i g l = record { cleared : l.others.items ≡ map unread (take l.i l.fn.others.items) ++ drop l.i l.fn.others.items }
