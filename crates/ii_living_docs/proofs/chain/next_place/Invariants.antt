use Rattle.std.proofs.Common.{◌≡◌, ◌≤◌, length}
use Rattle.ii_living_docs.specs.Chain.{chained}
use Rattle.ii_living_docs.proofs.chain.next_place.Given as goal

abbrev pub invariant-loop-place : goal.invariant-loop-place
invariant-loop-place g l = (l.place ≤ length l.cursors.items) × (chained g.D.DocSet.rest l.cursors.items l.place ≡ chained g.D.DocSet.rest l.cursors.items l.fn.from)
