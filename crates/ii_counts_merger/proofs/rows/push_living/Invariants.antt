use Rattle.std.proofs.Common.{◌≡◌, ◌-◌, ◌++◌, length, map}
use Rattle.std.specs.Prelude.{filter, slice_index}
use Rattle.std.specs.List.{range_with_len}
use Rattle.ii_segments.specs.Segments.{is_living, living_docs}
use Rattle.ii_counts_merger.proofs.rows.push_living.Given as goal

abbrev pub invariant-loop-doc : goal.invariant-loop-doc
invariant-loop-doc l = record {
  added : l.row.items ++ map (slice_index l.fn.counts.counts) (filter (is_living l.alive) (range_with_len l.doc (length l.alive - l.doc))) ≡ l.fn.row.items ++ map (slice_index l.fn.counts.counts) (living_docs l.alive);
  same : l.counts.counts ≡ l.fn.counts.counts;
}
