use Rattle.std.proofs.Common.{◌≡◌, drop, map}
use Rattle.ii_counts_merger.specs.CountsSources.{opened_counts}
use Rattle.nequllpa_merging.specs.MergedSegments.{counts_sources}
use Rattle.nequllpa_merging.specs.OpenedSegments.{opened_view}
use Rattle.nequllpa_merging.proofs.LoopLemmas.{after_counts}
use Rattle.nequllpa_merging.proofs.sources.counts_sources.Given as goal

abbrev pub invariant-loop-place : goal.invariant-loop-place
invariant-loop-place g l = after_counts (map opened_counts l.sources.items) (counts_sources (drop l.place (map opened_view l.segments))) ≡ counts_sources (map opened_view l.segments)
