use Rattle.std.proofs.Common.{◌≡◌, ◌++◌, drop, map}
use Rattle.ii_merger.specs.MergeSources.{source_of}
use Rattle.ii_merger.specs.MergedIndex.{field_sources, opened_segment}
use Rattle.ii_merger.proofs.index_merge.field_sources.Given as goal

abbrev pub invariant-loop-place : goal.invariant-loop-place
invariant-loop-place l = map source_of l.fields.items ++ field_sources l.field (drop l.place (map opened_segment l.sources)) ≡ field_sources l.field (map opened_segment l.sources)
