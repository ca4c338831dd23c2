use Rattle.std.proofs.Common.{◌≡◌, [], take}
use Rattle.ii_scorer.specs.Scorers.{lists_of}
use Rattle.ii_scorer.proofs.query_scorer.have_runs.Given as goal

abbrev pub invariant-loop-place : goal.invariant-loop-place
invariant-loop-place g l = lists_of (take l.place l.parts.items) ≡ []
