use Rattle.std.proofs.Common.{◌≡◌, ◌∙◌, List, ℕ, Ok, Option, ap, arith, inl, inr, length, map, sym, ⊎_elim}
use Rattle.std.specs.Prelude.{ok_or}
use Rattle.std.specs.List.{range_with_len}
use Rattle.std.proofs.lemmas.List.FromFn.{map-range_with_len_more}
use Rattle.ii_io.specs.declared.faults.Part.TheVariants.{TokenCount}
use Rattle.ii_reader.specs.OpenIndex.{all_or_first}
use Rattle.nequllpa_merging.specs.OpenedSegments.{living_total}
use Rattle.nequllpa_merging.proofs.OpenLemmas.{total_in}
use Rattle.nequllpa_merging.proofs.ResultLemmas.{all_more, numbers_cut}
use Rattle.nequllpa_merging.proofs.totals.living_totals.Goals as goal

pub returns-in-Err-clause-err : goal.returns-in-Err-clause-err
returns-in-Err-clause-err c =
    let index = c.args.index.now in
    let counts = c.args.counts.now in
    let alive = c.args.alive.now in
    let place = c.loop-place.place in
    let field : living_total c.from_field_id-field.result index counts alive ≡ living_total place index counts alive = ap (λ (k : ℕ). living_total k index counts alive) c.from_field_id-field.ensures in
    ⊎_elim inl
    (λ damaged. inr (
      TokenCount,
      damaged.0,
      numbers_cut (total_in index counts alive) place (length c.args.schema.now) c.loop-place.totals.items TokenCount (omega (arith, c.loop-place-test.true, c.num_fields-place-end.ensures.value)) c.loop-place.invariant
          (ap (λ (o : Option ℕ). ok_or o TokenCount) (sym field ∙ damaged.1)),
    ))
    c.in-Err.ensures.err

pub loop-place-preserved : goal.loop-place-preserved
loop-place-preserved c =
    let index = c.args.index.now in
    let counts = c.args.counts.now in
    let alive = c.args.alive.now in
    let place = c.loop-place.place in
    let F = total_in index counts alive in
    let known : F place ≡ Ok c.in-Ok.total = ap (λ (o : Option ℕ). ok_or o TokenCount) (sym (ap (λ (k : ℕ). living_total k index counts alive) c.from_field_id-field.ensures) ∙ c.in-Ok.ensures.ok) in
    ap all_or_first (map-range_with_len_more F 0 place place (omega arith))
    ∙ all_more (map F (range_with_len 0 place)) (F place) c.loop-place.totals.items c.in-Ok.total c.loop-place.invariant known
    ∙ ap (λ (xs : List ℕ). Ok xs) (sym c.in_ok-push.ensures.items)
