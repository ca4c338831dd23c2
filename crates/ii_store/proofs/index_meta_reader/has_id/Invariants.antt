use Rattle.std.proofs.Common.{◌≡◌, false, take, ◌==◌}
use Rattle.std.specs.List.{list_any}
use Rattle.ii_store.specs.declared.index_meta.SegmentMeta.{SegmentMeta}
use Rattle.ii_store.proofs.index_meta_reader.has_id.Given as goal

-- no segment before the index has the id
abbrev pub invariant-loop-segment : goal.invariant-loop-segment
invariant-loop-segment l = list_any (λ (s : SegmentMeta). s.id == l.id) (take l.segment-index l.segments) ≡ false
