use Rattle.std.proofs.Common.{◌≡◌, take}
use Rattle.ii_prepared_term.specs.QueryBounds.{greatest_listed}
use Rattle.ii_prepared_term.proofs.scored_list.greatest_of.Given as goal

abbrev pub invariant-loop-place : goal.invariant-loop-place
invariant-loop-place l = l.most ≡ greatest_listed (take l.place l.docs.items)
