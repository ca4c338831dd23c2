use Rattle.std.proofs.Common.{◌≡◌, List, ap, arith, map, refl, sym, ◌∙◌}
use Rattle.ii_alive.specs.Alive.{num_living}
use Rattle.ii_merger.specs.MergedIndex.{all_living}
use Rattle.nequllpa_merging.specs.MergedSegments.{merge_source}
use Rattle.nequllpa_merging.specs.OpenedSegments.{OpenedSegmentState, opened_view}
use Rattle.nequllpa_merging.specs.declared.opening.OpenedSegment.{OpenedSegment}
use Rattle.ii_definitions.proofs.ListLaws.{mapped_at}
use Rattle.nequllpa_merging.proofs.totals.num_living.Goals as goal

pub returns-then-more-total-clause-err : goal.returns-then-more-total-clause-err
returns-then-more-total-clause-err g c =
    let xs = c.args.segments.now in
    let at = ap (λ (os : List OpenedSegmentState). all_living (map merge_source os)) (mapped_at opened_view xs c.loop-place.place c.index-segments-place.result c.loop-place-test.true c.index-segments-place.is) in
    let same : num_living c.index-segments-place.result.alive ≡ c.num_living-more.result = ap (λ (o : OpenedSegment _). num_living o.alive) c.index-segments-place.is ∙ sym c.num_living-more.ensures in
    (refl, omega (arith, at, c.loop-place.invariant.left, c.loop-place.invariant.few, c.if-more-total.true, same))

pub loop-place-preserved : goal.loop-place-preserved
loop-place-preserved g c =
    let xs = c.args.segments.now in
    let at = ap (λ (os : List OpenedSegmentState). all_living (map merge_source os)) (mapped_at opened_view xs c.loop-place.place c.index-segments-place.result c.loop-place-test.true c.index-segments-place.is) in
    let same : num_living c.index-segments-place.result.alive ≡ c.num_living-more.result = ap (λ (o : OpenedSegment _). num_living o.alive) c.index-segments-place.is ∙ sym c.num_living-more.ensures in
    record {
      left = omega (arith, at, c.loop-place.invariant.left, same);
      few = omega (arith, c.loop-place.invariant.few, c.if-more-total.false);
    }
