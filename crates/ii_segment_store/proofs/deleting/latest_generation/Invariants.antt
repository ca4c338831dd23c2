use Rattle.std.proofs.Common.{◌≡◌, drop, map, max}
use Rattle.ii_store.specs.IndexMeta.{segment_view}
use Rattle.ii_segment_store.specs.Changes.{latest_generation}
use Rattle.ii_segment_store.proofs.deleting.latest_generation.Given as goal

-- the greatest so far, and that of the segments from the index on
abbrev pub invariant-loop-segment : goal.invariant-loop-segment
invariant-loop-segment l = max l.latest (latest_generation (map segment_view (drop l.segment-index l.segments))) ≡ latest_generation (map segment_view l.segments)
