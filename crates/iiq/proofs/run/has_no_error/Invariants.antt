use Rattle.std.proofs.Common.{◌≡◌, length, not, nat_eq, codes}
use Rattle.std.specs.List.{list_all, starts_with}
use Rattle.iiq.specs.Output.{has_no_error}
use Rattle.iiq.proofs.run.has_no_error.Given as goal

abbrev pub invariant-loop-line : goal.invariant-loop-line
invariant-loop-line l = has_no_error l.fn.text ≡ list_all (λ line. not (starts_with nat_eq line (codes "error"))) l.lines

abbrev pub decreases-loop-line : goal.decreases-loop-line
decreases-loop-line l = length l.lines
