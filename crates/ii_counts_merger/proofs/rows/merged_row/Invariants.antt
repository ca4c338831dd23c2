use Rattle.std.proofs.Common.{◌≡◌, ◌++◌, drop, map}
use Rattle.std.specs.List.{AllByRecursion}
use Rattle.ii_counts_merger.specs.CountsSources.{HasCounts, merged_row, opened_counts}
use Rattle.ii_counts_merger.proofs.rows.merged_row.Given as goal

abbrev pub invariant-loop-place : goal.invariant-loop-place
invariant-loop-place l = record {
  added : l.row.items ++ merged_row l.field (drop l.place (map opened_counts l.sources)) ≡ merged_row l.field (map opened_counts l.sources);
  sound : AllByRecursion (HasCounts l.field) (drop l.place (map opened_counts l.sources)) → AllByRecursion (HasCounts l.field) (map opened_counts l.sources);
}
