use Rattle.std.proofs.Common.{◌≡◌, ◌++◌, drop, map}
use Rattle.ii_merger.specs.MergedIndex.{opened_segment}
use Rattle.nequllpa_merging.specs.MergedSegments.{merge_source}
use Rattle.nequllpa_merging.specs.OpenedSegments.{opened_view}
use Rattle.nequllpa_merging.proofs.sources.merge_sources.Given as goal

abbrev pub invariant-loop-place : goal.invariant-loop-place
invariant-loop-place g l = map opened_segment l.sources.items ++ map merge_source (drop l.place (map opened_view l.segments)) ≡ map merge_source (map opened_view l.segments)
