use Rattle.std.proofs.Common.{◌≡◌, ◌++◌, drop, map}
use Rattle.std.specs.List.{AllByRecursion}
use Rattle.ii_merger.specs.MergedIndex.{opened_segment}
use Rattle.ii_merger.specs.MergedNorms.{HasAllNorms, merged_ids}
use Rattle.ii_merger.proofs.norms.push_all_norms.Given as goal

abbrev pub invariant-loop-place : goal.invariant-loop-place
invariant-loop-place l = record {
  added : l.ids.items ++ merged_ids l.field (drop l.place (map opened_segment l.sources)) ≡ l.fn.ids.items ++ merged_ids l.field (map opened_segment l.sources);
  sound : AllByRecursion (HasAllNorms l.field) (drop l.place (map opened_segment l.sources)) → AllByRecursion (HasAllNorms l.field) (map opened_segment l.sources);
  whole : AllByRecursion (HasAllNorms l.field) (map opened_segment l.sources) → AllByRecursion (HasAllNorms l.field) (drop l.place (map opened_segment l.sources));
}
