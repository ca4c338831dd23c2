use Rattle.std.proofs.Common.{◌≡◌, ◌+◌, drop, map}
use Rattle.nequllpa_merging.specs.MergedSegments.{total_of}
use Rattle.nequllpa_merging.specs.OpenedSegments.{opened_view}
use Rattle.nequllpa_merging.proofs.totals.sum_of_totals.Given as goal

abbrev pub invariant-loop-place : goal.invariant-loop-place
invariant-loop-place g l = l.total + total_of l.field (drop l.place (map opened_view l.segments)) ≡ total_of l.field (map opened_view l.segments)
