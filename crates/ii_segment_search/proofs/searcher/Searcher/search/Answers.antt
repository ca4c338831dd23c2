use Rattle.std.proofs.Common.{◌∙◌, ◌+◌, List, ap, arith, subst, sym}
use Rattle.std.specs.List.{flat_map}
use Rattle.ii_alive.specs.Alive.{num_living}
use Rattle.ii_reader.specs.InvertedIndexReader.{IsRefusal}
use Rattle.ii_segment_search.specs.Searcher.{OpenSegmentState, SegmentsHold, found_from, living_rest}
use Rattle.ii_segment_search.proofs.SearchLemmas.{IsSearched, at_place, fails_for_memory, has_numbers, refused_segment, searched_all, searched_more}
use Rattle.ii_segment_search.proofs.searcher.Searcher.search.Goals as goal

pub add_segment-requires-clause-numbered : goal.add_segment-requires-clause-numbered
add_segment-requires-clause-numbered c =
    let segments = c.self.inside.segments.items in
    let there = at_place segments c.loop-place.place c.index-segment.result.now (omega (arith, c.loop-place-test.true, c.len-place-end.ensures)) c.index-segment.ensures in
    has_numbers c.args.query.now segments c.loop-place.place c.loop-place.base (flat_map living_rest c.loop-place.cursors.items) c.self.invariant c.loop-place.invariant c.index-segment.result.now there

pub returns-in-Err-clause-refused : goal.returns-in-Err-clause-refused
returns-in-Err-clause-refused c =
    let segments = c.self.inside.segments.items in
    let there = at_place segments c.loop-place.place c.index-segment.result.now (omega (arith, c.loop-place-test.true, c.len-place-end.ensures)) c.index-segment.ensures in
    subst (λ (ss : List OpenSegmentState). IsRefusal (found_from c.args.query.now 0 ss) c.in-Err.fault) c.self.view_is
    (refused_segment c.args.query.now segments c.loop-place.place c.loop-place.base (flat_map living_rest c.loop-place.cursors.items) c.index-segment.result.now c.in-Err.fault c.loop-place.invariant there c.in-Err.ensures.refused)

pub returns-in-Err-clause-holds : goal.returns-in-Err-clause-holds
returns-in-Err-clause-holds c entries ss hold ask reaches =
    let segments = c.self.inside.segments.items in
    let there = at_place segments c.loop-place.place c.index-segment.result.now (omega (arith, c.loop-place-test.true, c.len-place-end.ensures)) c.index-segment.ensures in
    fails_for_memory entries c.args.query.now segments c.loop-place.place c.index-segment.result.now ss c.in-Err.fault there c.in-Err.ensures.memory
    (subst (λ (os : List OpenSegmentState). SegmentsHold entries os ss) (sym c.self.view_is) hold) ask

pub overflow_add-base : goal.overflow_add-base
overflow_add-base c =
    let segments = c.self.inside.segments.items in
    let there = at_place segments c.loop-place.place c.index-segment.result.now (omega (arith, c.loop-place-test.true, c.len-place-end.ensures)) c.index-segment.ensures in
    let few = has_numbers c.args.query.now segments c.loop-place.place c.loop-place.base (flat_map living_rest c.loop-place.cursors.items) c.self.invariant c.loop-place.invariant c.index-segment.result.now there in
    let same = c.num_living-base.ensures ∙ ap (λ (o : OpenSegmentState). num_living o.alive) c.segment.view_is in
    omega (arith, few.few, same)

pub loop-place-preserved : goal.loop-place-preserved
loop-place-preserved c =
    let segments = c.self.inside.segments.items in
    let there = at_place segments c.loop-place.place c.index-segment.result.now (omega (arith, c.loop-place-test.true, c.len-place-end.ensures)) c.index-segment.ensures in
    let same = c.num_living-base.ensures ∙ ap (λ (o : OpenSegmentState). num_living o.alive) c.segment.view_is in
    let more = searched_more c.args.query.now segments c.loop-place.place c.loop-place.base (flat_map living_rest c.loop-place.cursors.items) c.self.invariant c.loop-place.invariant c.index-segment.result.now there (flat_map living_rest c.add_segment.new.cursors.items) c.in_default.ensures.found in
    subst (λ n. IsSearched c.args.query.now segments (c.loop-place.place + 1) (c.loop-place.base + n) (flat_map living_rest c.add_segment.new.cursors.items)) (sym same) more

pub returns-clause-holds : goal.returns-clause-holds
returns-clause-holds c entries ss hold ask reaches =
    searched_all entries c.args.query.now c.self.inside.segments.items c.loop-place.place c.loop-place.base (flat_map living_rest c.loop-place.cursors.items) _ ss c.loop-place.invariant (omega (arith, c.loop-place-test.false, c.len-place-end.ensures)) c.new.ensures.rest
    (subst (λ (os : List OpenSegmentState). SegmentsHold entries os ss) (sym c.self.view_is) hold) ask reaches
