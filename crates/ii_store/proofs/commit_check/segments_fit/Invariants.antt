use Rattle.std.proofs.Common.{take}
use Rattle.std.specs.Prelude.{map}
use Rattle.std.specs.List.{AllByRecursion}
use Rattle.ii_store.specs.IndexMeta.{SegmentFits, segment_view}
use Rattle.ii_store.proofs.commit_check.segments_fit.Given as goal

-- the segments before the index fit
abbrev pub invariant-loop-segment : goal.invariant-loop-segment
invariant-loop-segment l = AllByRecursion SegmentFits (map segment_view (take l.segment-index l.segments))
