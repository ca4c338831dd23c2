use Rattle.std.proofs.Common.{◌≡◌, ◌∙◌, ◌++◌, ◌∷◌, [], List, ℕ, length, map, sym, ap, subst, arith}
use Rattle.std.specs.Prelude.{◌⊎◌, sum}
use Rattle.std.specs.List.{AllByRecursion}
use Rattle.std.proofs.lemmas.List.FromFn.{map-range_with_len_more}
use Rattle.ii_io.specs.declared.faults.Fault.TheVariants.{Damaged, OutOfMemory}
use Rattle.ii_io.specs.declared.faults.Part.TheVariants.{TokenCount}
use Rattle.ii_counts_merger.specs.CountsSources.{HasCounts, SetsRow, merged_row, merged_totals, opened_counts}
use Rattle.ii_counts_merger.proofs.RowLemmas.{counts_next, merged_length, rows_damaged, rows_next}
use Rattle.ii_counts_merger.proofs.merged_counts.merge_rows.Goals as goal

pub returns-in-Err-clause-fault : goal.returns-in-Err-clause-fault
returns-in-Err-clause-fault c =
    let ss = map opened_counts c.args.sources.now in
    let e = c.in-Err.fault in
    rows_damaged (length c.args.schema.now) c.loop-place.place ss e (omega (arith, c.loop-place-test.true, c.num_fields-place-end.ensures.value))
    (subst (λ (k : ℕ). (e ≡ OutOfMemory) ⊎ ((e ≡ Damaged TokenCount) × ¬ AllByRecursion (HasCounts k) ss)) c.from_field_id-field.ensures c.in-Err.ensures.fault)

pub sum_of-requires : goal.sum_of-requires
sum_of-requires c =
    let ss = map opened_counts c.args.sources.now in
    omega (arith, ap length (c.as_slice.ensures.value ∙ c.in-Ok.ensures.ok), merged_length c.from_field_id-field.result ss, c.requires.few)

pub record_row-requires-clause-few : goal.record_row-requires-clause-few
record_row-requires-clause-few c =
    let ss = map opened_counts c.args.sources.now in
    omega (arith, ap length (c.as_slice-in-loop-place.ensures.value ∙ c.in-Ok.ensures.ok), merged_length c.from_field_id-field.result ss, c.requires.few)

pub loop-place-preserved : goal.loop-place-preserved
loop-place-preserved c =
    let ss = map opened_counts c.args.sources.now in
    let place = c.loop-place.place in
    let h = c.loop-place.invariant in
    let field = c.from_field_id-field.ensures in
    let old = c.loop-place.writer in
    let new = c.record_row.new.writer in
    let row = c.as_slice-in-loop-place.result.now in
    let row_is : row ≡ merged_row place ss = c.as_slice-in-loop-place.ensures.value ∙ c.in-Ok.ensures.ok ∙ ap (λ (k : ℕ). merged_row k ss) field in
    let sets = subst (λ (k : ℕ). SetsRow old new k (length row) row) field c.in_ok-record_row.ensures.ok in
    let total : c.sum_of.result ≡ sum (merged_row place ss) = c.sum_of.ensures ∙ ap sum (c.as_slice.ensures.value ∙ c.in-Ok.ensures.ok ∙ ap (λ (k : ℕ). merged_row k ss) field) in
    record {
      rows = rows_next (length c.args.schema.now) place ss old new row h.rows sets row_is;
      totals = c.in_ok-push.ensures.items ∙ ap (λ (xs : List ℕ). xs ++ c.sum_of.result ∷ []) h.totals ∙ ap (λ (n : ℕ). merged_totals place ss ++ n ∷ []) total
          ∙ sym (map-range_with_len_more (λ (k : ℕ). sum (merged_row k ss)) 0 place place (omega arith));
      sound = counts_next place ss h.sound (subst (λ (k : ℕ). AllByRecursion (HasCounts k) ss) field c.in-Ok.ensures.sound);
    }
