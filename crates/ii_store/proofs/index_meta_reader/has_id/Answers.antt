use Rattle.ii_store.proofs.ListChecks.{any_id, no_id}
use Rattle.ii_store.proofs.index_meta_reader.has_id.Goals as goal

pub returns-then-segment-id : goal.returns-then-segment-id
returns-then-segment-id c = any_id c.args.id c.args.segments.now c.loop-segment.segment-index c.segment-item.result c.loop-segment-test.true c.segment-item.is c.if-segment-id.true

pub returns : goal.returns
returns c = no_id c.args.id c.args.segments.now c.loop-segment.segment-index c.loop-segment-test.false c.loop-segment.invariant
