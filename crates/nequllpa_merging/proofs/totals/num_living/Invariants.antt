use Rattle.std.proofs.Common.{◌≡◌, ◌+◌, ◌≤◌, drop, map}
use Rattle.ii_base.specs.declared.doc_id.TheConstants.{TERMINATED}
use Rattle.ii_merger.specs.MergedIndex.{all_living}
use Rattle.nequllpa_merging.specs.MergedSegments.{merge_source}
use Rattle.nequllpa_merging.specs.OpenedSegments.{opened_view}
use Rattle.nequllpa_merging.proofs.totals.num_living.Given as goal

abbrev pub invariant-loop-place : goal.invariant-loop-place
invariant-loop-place g l = record {
  left : l.total + all_living (map merge_source (drop l.place (map opened_view l.segments))) ≡ all_living (map merge_source (map opened_view l.segments));
  few : l.total ≤ TERMINATED;
}
