use Rattle.std.proofs.Common.{◌∙◌, ◌+◌, ap, arith}
use Rattle.ii_alive.specs.Alive.{num_living}
use Rattle.ii_segment_search.specs.Searcher.{OpenSegmentState}
use Rattle.ii_segment_search.proofs.SearchLemmas.{at_place, total_step, total_within}
use Rattle.ii_segment_search.proofs.searcher.Searcher.num_docs.Goals as goal

pub overflow_add-total : goal.overflow_add-total
overflow_add-total c =
    let segments = c.self.inside.segments.items in
    let there = at_place segments c.loop-place.place c.index.result.now (omega (arith, c.loop-place-test.true, c.len-place-end.ensures)) c.index.ensures in
    let living = c.num_living-total.ensures ∙ ap (λ (o : OpenSegmentState). num_living o.alive) c.behind-self.view_is in
    omega (arith, total_step segments c.loop-place.place c.index.result.now there, total_within segments (c.loop-place.place + 1) c.self.invariant, c.loop-place.invariant, living)

pub loop-place-preserved : goal.loop-place-preserved
loop-place-preserved c =
    let segments = c.self.inside.segments.items in
    let there = at_place segments c.loop-place.place c.index.result.now (omega (arith, c.loop-place-test.true, c.len-place-end.ensures)) c.index.ensures in
    let living = c.num_living-total.ensures ∙ ap (λ (o : OpenSegmentState). num_living o.alive) c.behind-self.view_is in
    omega (arith, total_step segments c.loop-place.place c.index.result.now there, c.loop-place.invariant, living)
