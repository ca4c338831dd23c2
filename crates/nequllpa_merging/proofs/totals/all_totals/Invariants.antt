use Rattle.std.proofs.Common.{◌≡◌, map}
use Rattle.nequllpa_merging.specs.MergedSegments.{totals_of}
use Rattle.nequllpa_merging.specs.OpenedSegments.{opened_view}
use Rattle.nequllpa_merging.proofs.totals.all_totals.Given as goal

abbrev pub invariant-loop-place : goal.invariant-loop-place
invariant-loop-place g l = l.totals.items ≡ totals_of l.place (map opened_view l.segments)
