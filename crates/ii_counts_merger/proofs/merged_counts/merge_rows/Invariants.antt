use Rattle.std.proofs.Common.{◌≡◌, length, map}
use Rattle.ii_counts_merger.specs.CountsSources.{HasRows, HaveCounts, merged_totals, opened_counts}
use Rattle.ii_counts_merger.proofs.merged_counts.merge_rows.Given as goal

abbrev pub invariant-loop-place : goal.invariant-loop-place
invariant-loop-place l = record {
  rows : HasRows (length l.schema) l.place (map opened_counts l.sources) l.writer;
  totals : l.num_tokens.items ≡ merged_totals l.place (map opened_counts l.sources);
  sound : HaveCounts l.place (map opened_counts l.sources);
}
