use Rattle.std.proofs.Common.{◌≡◌, ◌++◌, take}
use Rattle.std.specs.Prelude.{map}
use Rattle.std.specs.List.{flat_map}
use Rattle.ii_store.specs.IndexMeta.{segment_bytes, segment_view}
use Rattle.ii_store.proofs.index_meta.push_segments.Given as goal

-- the segments before the index were appended
abbrev pub invariant-loop-segment : goal.invariant-loop-segment
invariant-loop-segment l = l.bytes.items ≡ l.fn.bytes.items ++ flat_map (segment_bytes 3) (map segment_view (take l.segment-index l.segments))
