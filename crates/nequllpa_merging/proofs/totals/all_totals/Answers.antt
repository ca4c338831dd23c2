use Rattle.std.proofs.Common.{◌∙◌, ◌++◌, ◌∷◌, [], List, ℕ, ap, arith, map, sym}
use Rattle.std.proofs.lemmas.List.FromFn.{map-range_with_len_more}
use Rattle.nequllpa_merging.specs.MergedSegments.{total_of, totals_of}
use Rattle.nequllpa_merging.specs.OpenedSegments.{opened_view}
use Rattle.nequllpa_merging.proofs.totals.all_totals.Goals as goal

pub loop-place-preserved : goal.loop-place-preserved
loop-place-preserved g c =
    let os = map opened_view c.args.segments.now in
    let place = c.loop-place.place in
    c.in_ok-push.ensures.items ∙ ap (λ (xs : List ℕ). xs ++ c.in-Ok.total ∷ []) c.loop-place.invariant ∙ ap (λ (n : ℕ). totals_of place os ++ n ∷ []) (c.in-Ok.ensures.ok ∙ ap (λ (field : ℕ). total_of field os) c.from_field_id-field.ensures)
    ∙ sym (map-range_with_len_more (λ (field : ℕ). total_of field os) 0 place place (omega arith))
