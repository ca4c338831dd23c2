use Rattle.std.proofs.Common.{◌≡◌, true, take}
use Rattle.std.specs.List.{list_all}
use Rattle.ii_store.specs.IndexMeta.{is_segment, segment_view}
use Rattle.ii_store.proofs.index_meta_reader.are_segments.Given as goal

-- the segments before the index are consistent
abbrev pub invariant-loop-segment : goal.invariant-loop-segment
invariant-loop-segment l = list_all (λ s. is_segment l.next (segment_view s)) (take l.segment-index l.segments) ≡ true
