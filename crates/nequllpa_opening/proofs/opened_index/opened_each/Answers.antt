use Rattle.nequllpa_opening.specs.OpenedSegments.{OpensAs}
use Rattle.nequllpa_opening.proofs.OpenLemmas.{making_goes_on}
use Rattle.nequllpa_opening.proofs.opened_index.opened_each.Goals as goal

pub loop-segment-preserved : goal.loop-segment-preserved
loop-segment-preserved c =
    making_goes_on (OpensAs c.args.schema.now) c.args.segments.items c.loop-segment.yielded c.loop-segment.segment-iterator.rest.items c.next.new.self.rest.items c.loop-segment.opened.items c.push.new.self.items c.in-Some.segment c.in-Ok.index
    c.in-Some.ensures.steps.0 c.in_ok-push.ensures.items c.in-Ok.ensures c.loop-segment.invariant
