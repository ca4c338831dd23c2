use Rattle.std.proofs.Common.{◌≡◌, ◌∙◌, ◌<◌, ◌+◌, List, ℕ, ap, arith, drop, get_or, length, map, refl, sym}
use Rattle.nequllpa_merging.specs.MergedSegments.{total_of}
use Rattle.nequllpa_merging.specs.OpenedSegments.{OpenedSegmentState, opened_view}
use Rattle.nequllpa_merging.specs.declared.opening.OpenedSegment.{OpenedSegment}
use Rattle.nequllpa_merging.proofs.LoopLemmas.{each_item, total_cons}
use Rattle.ii_definitions.proofs.ListLaws.{mapped_at}
use Rattle.nequllpa_merging.proofs.totals.sum_of_totals.Goals as goal

pub bounds-totals-field_id : goal.bounds-totals-field_id
bounds-totals-field_id g c =
    let x = c.index-segments-place.result in
    let known : c.args.field < length x.num_tokens.items = each_item (λ (o : OpenedSegmentState). c.args.field < length o.num_tokens) opened_view c.args.segments.now c.loop-place.place x c.loop-place-test.true c.index-segments-place.is c.requires.known in
    let same = ap length (c.as_slice-totals.ensures.value ∙ ap (λ (o : OpenedSegment _). o.num_tokens.items) (sym c.index-segments-place.is)) in
    omega (arith, known, same, c.field_id.ensures)

pub returns-then-more-total-clause-err : goal.returns-then-more-total-clause-err
returns-then-more-total-clause-err g c =
    let x = c.index-segments-place.result in
    let at = ap (total_of c.args.field) (mapped_at opened_view c.args.segments.now c.loop-place.place x c.loop-place-test.true c.index-segments-place.is) ∙ total_cons c.args.field (opened_view x) (drop (c.loop-place.place + 1) (map opened_view c.args.segments.now)) in
    let same : get_or c.as_slice-totals.result.now c.field_id.result 0 ≡ get_or x.num_tokens.items c.args.field 0 =
    ap (λ (k : ℕ). get_or c.as_slice-totals.result.now k 0) c.field_id.ensures ∙ ap (λ (xs : List ℕ). get_or xs c.args.field 0) (c.as_slice-totals.ensures.value ∙ ap (λ (o : OpenedSegment _). o.num_tokens.items) (sym c.index-segments-place.is)) in
    (refl, omega (arith, at, same, c.loop-place.invariant, c.if-more-total.true, c.field_id.ensures))

pub loop-place-preserved : goal.loop-place-preserved
loop-place-preserved g c =
    let x = c.index-segments-place.result in
    let at = ap (total_of c.args.field) (mapped_at opened_view c.args.segments.now c.loop-place.place x c.loop-place-test.true c.index-segments-place.is) ∙ total_cons c.args.field (opened_view x) (drop (c.loop-place.place + 1) (map opened_view c.args.segments.now)) in
    let same : get_or c.as_slice-totals.result.now c.field_id.result 0 ≡ get_or x.num_tokens.items c.args.field 0 =
    ap (λ (k : ℕ). get_or c.as_slice-totals.result.now k 0) c.field_id.ensures ∙ ap (λ (xs : List ℕ). get_or xs c.args.field 0) (c.as_slice-totals.ensures.value ∙ ap (λ (o : OpenedSegment _). o.num_tokens.items) (sym c.index-segments-place.is)) in
    omega (arith, at, same, c.loop-place.invariant, c.field_id.ensures)
