use Rattle.std.proofs.Common.{◌≡◌, drop, map}
use Rattle.ii_store.specs.IndexMeta.{segment_view}
use Rattle.ii_segment_store.specs.Changes.{first_uncounted}
use Rattle.ii_segment_store.proofs.deleting.first_uncounted.Given as goal

-- none of the segments before the place is the one
abbrev pub invariant-loop-place : goal.invariant-loop-place
invariant-loop-place l = first_uncounted (drop l.place (map (λ v. v.items) l.deleted)) (drop l.place (map segment_view l.segments)) ≡ first_uncounted (map (λ v. v.items) l.deleted) (map segment_view l.segments)
