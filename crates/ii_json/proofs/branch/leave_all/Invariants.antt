use Rattle.std.proofs.Common.{◌≡◌, reverse, length}
use Rattle.ii_json.specs.Branches.{path_outside}
use Rattle.ii_json.proofs.branch.leave_all.Given as goal

abbrev pub invariant-loop-open : goal.invariant-loop-open
invariant-loop-open l = path_outside l.writer (reverse l.outer.items) ≡ path_outside l.initial.writer (reverse l.initial.outer.items)

abbrev pub decreases-loop-open : goal.decreases-loop-open
decreases-loop-open l = length l.outer.items
