use Rattle.std.proofs.Common.{◌≡◌, ◌≤◌, take}
use Rattle.std.specs.List.{sum_by}
use Rattle.ii_store.specs.declared.index_meta.SegmentMeta.{SegmentMeta}
use Rattle.ii_store.proofs.index_meta_reader.have_few_living.Given as goal

-- the living documents of the segments before the index
abbrev pub invariant-loop-segment : goal.invariant-loop-segment
invariant-loop-segment l = record { counted : l.living ≡ sum_by (λ (s : SegmentMeta). s.num_living) (take l.segment-index l.segments); few : l.living ≤ 2147483647 }
