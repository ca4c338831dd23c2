use Rattle.ii_store.proofs.CollectLaws.{has_here, has_none}
use Rattle.ii_store.proofs.collect.has_file.Goals as goal

pub returns-then-segment_has : goal.returns-then-segment_has
returns-then-segment_has c = has_here c.args.id c.args.component c.args.segments.now c.loop-segment.segment-index c.segment-item.result c.loop-segment-test.true c.segment-item.is c.if-segment_has.ensures

pub returns : goal.returns
returns c = has_none c.args.id c.args.component c.args.segments.now c.loop-segment.segment-index c.loop-segment-test.false c.loop-segment.invariant
