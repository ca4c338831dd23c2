use Rattle.ii_store.proofs.ListChecks.{all_segments, not_segment}
use Rattle.ii_store.proofs.index_meta_reader.are_segments.Goals as goal

pub returns-then-not-is_one : goal.returns-then-not-is_one
returns-then-not-is_one c = not_segment c.args.next c.args.segments.now c.loop-segment.segment-index c.segment-item.result c.loop-segment-test.true c.segment-item.is c.if-not-is_one.ensures

pub returns : goal.returns
returns c = all_segments c.args.next c.args.segments.now c.loop-segment.segment-index c.loop-segment-test.false c.loop-segment.invariant
