use Rattle.std.proofs.Common.{◌≡◌, length}
use Rattle.std.specs.Prelude.{map}
use Rattle.ii_store.specs.IndexMeta.{ids_differ, segment_view}
use Rattle.ii_store.proofs.index_meta_reader.have_ids.Given as goal

-- the ids differ exactly if those that are left do
abbrev pub invariant-loop-segment : goal.invariant-loop-segment
invariant-loop-segment l = ids_differ (map segment_view l.rest) ≡ ids_differ (map segment_view l.segments)

abbrev pub decreases-loop-segment : goal.decreases-loop-segment
decreases-loop-segment l = length l.rest
