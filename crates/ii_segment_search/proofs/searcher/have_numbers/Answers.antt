use Rattle.std.proofs.Common.{◌∙◌, ◌+◌, ap, arith, inl, inr, length, subst, sym, true≢false}
use Rattle.ii_alive.specs.Alive.{num_living}
use Rattle.ii_segment_search.specs.Searcher.{OpenSegmentState}
use Rattle.ii_segment_search.proofs.SearchLemmas.{AreFewSoFar, at_place, few_more, too_many}
use Rattle.ii_segment_search.proofs.searcher.have_numbers.Goals as goal

pub returns-then-num_docs-gt-TERMINATED : goal.returns-then-num_docs-gt-TERMINATED
returns-then-num_docs-gt-TERMINATED c =
    let segments = c.args.segments.now.items in
    let there = at_place segments c.loop-place.place c.index.result.now (omega (arith, c.loop-place-test.true, c.len-place-end.ensures)) c.index.ensures in
    let docs = c.num_docs.ensures ∙ ap (λ (o : OpenSegmentState). length o.alive) c.behind-segments.view_is in
    (λ no. absurd (true≢false (sym no)), λ few. absurd (too_many segments c.loop-place.place c.loop-place.total c.index.result.now c.loop-place.invariant there (inl (omega (arith, docs, c.if-num_docs-gt-TERMINATED.true))) few))

pub returns-then-living-total : goal.returns-then-living-total
returns-then-living-total c =
    let segments = c.args.segments.now.items in
    let there = at_place segments c.loop-place.place c.index.result.now (omega (arith, c.loop-place-test.true, c.len-place-end.ensures)) c.index.ensures in
    let living = c.num_living-living.ensures ∙ ap (λ (o : OpenSegmentState). num_living o.alive) c.behind-segments.view_is in
    (λ no. absurd (true≢false (sym no)), λ few. absurd (too_many segments c.loop-place.place c.loop-place.total c.index.result.now c.loop-place.invariant there (inr (omega (arith, living, c.if-living-total.true, c.loop-place.invariant.few))) few))

pub loop-place-preserved : goal.loop-place-preserved
loop-place-preserved c =
    let segments = c.args.segments.now.items in
    let there = at_place segments c.loop-place.place c.index.result.now (omega (arith, c.loop-place-test.true, c.len-place-end.ensures)) c.index.ensures in
    let docs = c.num_docs.ensures ∙ ap (λ (o : OpenSegmentState). length o.alive) c.behind-segments.view_is in
    let living = c.num_living-living.ensures ∙ ap (λ (o : OpenSegmentState). num_living o.alive) c.behind-segments.view_is in
    subst (λ n. AreFewSoFar segments (c.loop-place.place + 1) (c.loop-place.total + n)) (sym living)
    (few_more segments c.loop-place.place c.loop-place.total c.index.result.now c.loop-place.invariant there (omega (arith, docs, c.if-num_docs-gt-TERMINATED.false)) (omega (arith, living, c.if-living-total.false, c.loop-place.invariant.few)))
