use Rattle.ii_store.proofs.ListChecks.{fits_at}
use Rattle.ii_store.proofs.index_meta.push_segments.Goals as goal

pub push_segment-requires : goal.push_segment-requires
push_segment-requires c = rw c.segment-item.is (fits_at c.args.segments.now c.loop-segment.segment-index c.segment-item.result c.loop-segment-test.true c.requires)
