use Rattle.std.proofs.Common.{◌≡◌, ◌∙◌, [], List, ap, arith, length, map}
use Rattle.std.specs.Prelude.{slice_get}
use Rattle.std.proofs.lemmas.List.{nil_from_length}
use Rattle.ii_segment_search.specs.Searcher.{OpenSegmentState}
use Rattle.ii_segment_store.specs.Contents.{segment_contents}
use Rattle.ii_index.proofs.OpenLemmas.{counting_ends, counting_goes_on, next_segment, opening_ends, opening_goes_on}
use Rattle.ii_index.proofs.opening.open_segments.Goals as goal

pub loop-segment-preserved : goal.loop-segment-preserved
loop-segment-preserved c = record {
  opening = opening_goes_on c.args.schema.now c.args.segments.items c.loop-segment.yielded c.loop-segment.segment-iterator.rest.items c.next.new.self.rest.items c.loop-segment.opened.items c.push.new.self.items c.in-Some.segment c.in-Ok.both.0
      c.in-Some.ensures.steps.0 c.in_ok-push.ensures.items c.in-Ok.ensures.opens c.loop-segment.invariant.opening;
  counting = counting_goes_on c.args.schema.now c.loop-segment.yielded c.loop-segment.all_totals.items c.push-in-loop-segment.new.self.items c.in-Some.segment c.in-Ok.both.1 c.in_ok-push-2.ensures.items c.in-Ok.ensures.counted c.loop-segment.invariant.counting;
}

pub returns-clause-opens : goal.returns-clause-opens
returns-clause-opens c =
    let rest = c.loop-segment.segment-iterator.rest in
    let none : rest.items ≡ [] = nil_from_length rest.items (omega (arith, rest.ok, c.in-None.ensures.steps.0)) in
    opening_ends c.args.schema.now c.args.segments.items c.loop-segment.yielded rest.items c.loop-segment.opened.items none c.loop-segment.invariant.opening

pub returns-clause-counted : goal.returns-clause-counted
returns-clause-counted c =
    let rest = c.loop-segment.segment-iterator.rest in
    let none : rest.items ≡ [] = nil_from_length rest.items (omega (arith, rest.ok, c.in-None.ensures.steps.0)) in
    counting_ends c.args.schema.now c.args.segments.items c.loop-segment.yielded rest.items c.loop-segment.opened.items c.loop-segment.all_totals.items none c.loop-segment.invariant.opening c.loop-segment.invariant.counting

pub returns-in-Err-clause-fault : goal.returns-in-Err-clause-fault
returns-in-Err-clause-fault c =
    let here = next_segment c.args.schema.now c.args.segments.items c.loop-segment.yielded c.loop-segment.segment-iterator.rest.items c.next.new.self.rest.items c.loop-segment.opened.items c.in-Some.segment c.in-Some.ensures.steps.0 c.loop-segment.invariant.opening in
    (segment_contents c.in-Some.segment, ap (λ (os : List OpenSegmentState). slice_get (map segment_contents c.args.segments.items) (length os)) c.as_slice-place.ensures.value ∙ here, c.in-Err.ensures.err)
