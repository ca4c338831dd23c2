use Rattle.std.proofs.Common.{◌≡◌, [], ◌∷◌, Err, Ok, Some, ap, arith, false, length-append, subst, sym, ℕ}
use Rattle.std.specs.Prelude.{slice_get}
use Rattle.ii_io.specs.declared.faults.Fault.TheVariants as faults
use Rattle.ii_io.specs.declared.faults.Part.TheVariants as parts
use Rattle.ii_base.specs.declared.schema.index_record_option.IndexRecordOption.{IndexRecordOption}
use Rattle.ii_file_slice.specs.declared.faults.FileFault.TheVariants.{Index}
use Rattle.ii_reader.specs.OpenIndex.{reader_of_field}
use Rattle.ii_reader.proofs.IndexLemmas.{many_fields}
use Rattle.ii_warmup.specs.Faults.{IsCopyFault}
use Rattle.ii_warmup.specs.Parts.{IsPartOf}
use Rattle.ii_warmup.specs.QueryTerms.{requests_of}
use Rattle.ii_warmup.specs.Warmup.{all_lie, all_sound}
use Rattle.ii_warmup.proofs.IndexPartLemmas.{fault_of_field, parts_end, parts_next, reader_at}
use Rattle.ii_warmup.proofs.index_parts.IndexTables.open_fields.Goals as goal

pub returns-in-Err-clause-range : goal.returns-in-Err-clause-range
returns-in-Err-clause-range g c = λ bodies whole k is damaged.
    let place = c.loop-place.place in
    let field = c.from_field_id-field.ensures in
    let entry = c.get_field_entry.result.now in
    let there : slice_get c.args.schema.now place ≡ Some entry = subst (λ (f : ℕ). slice_get c.args.schema.now f ≡ Some entry) field c.get_field_entry.ensures in
    let own = reader_at bodies c.args.schema.now whole place entry is there in
    let given : reader_of_field bodies c.from_field_id-field.result c.index_record_option-option.result ≡ Ok own.item =
    subst (λ (f : ℕ). reader_of_field bodies f c.index_record_option-option.result ≡ Ok own.item) (sym field) (subst (λ (o : IndexRecordOption). reader_of_field bodies place o ≡ Ok own.item) (sym c.index_record_option-option.ensures) own.given) in
    let here : c.in-Err.fault ≡ Index (faults.Damaged parts.Range) = cc in
    record {
      field = place;
      reader = own.item;
      there = own.there;
      fails = subst (λ (f : ℕ). all_lie (requests_of c.args.terms.now c.args.ranges.now f) own.item ≡ false) field ((c.in-Err.ensures.warms bodies own.item k given).range (ap Err here));
    }

pub returns-in-Err-clause-long : goal.returns-in-Err-clause-long
returns-in-Err-clause-long g c = λ bodies whole k is damaged.
    let place = c.loop-place.place in
    let field = c.from_field_id-field.ensures in
    let entry = c.get_field_entry.result.now in
    let there : slice_get c.args.schema.now place ≡ Some entry = subst (λ (f : ℕ). slice_get c.args.schema.now f ≡ Some entry) field c.get_field_entry.ensures in
    let own = reader_at bodies c.args.schema.now whole place entry is there in
    let given : reader_of_field bodies c.from_field_id-field.result c.index_record_option-option.result ≡ Ok own.item =
    subst (λ (f : ℕ). reader_of_field bodies f c.index_record_option-option.result ≡ Ok own.item) (sym field) (subst (λ (o : IndexRecordOption). reader_of_field bodies place o ≡ Ok own.item) (sym c.index_record_option-option.ensures) own.given) in
    let here : c.in-Err.fault ≡ Index (faults.Damaged parts.TermStore) = cc in
    record {
      field = place;
      reader = own.item;
      there = own.there;
      fails = subst (λ (f : ℕ). all_sound (requests_of c.args.terms.now c.args.ranges.now f) own.item.terms ≡ false) field (c.in-Err.ensures.long bodies own.item k given (ap Err here));
    }

pub returns-in-Err-clause-sound : goal.returns-in-Err-clause-sound
returns-in-Err-clause-sound g c = λ bodies whole k is t_sound p_sound q_sound.
    let place = c.loop-place.place in
    let field = c.from_field_id-field.ensures in
    let entry = c.get_field_entry.result.now in
    let there : slice_get c.args.schema.now place ≡ Some entry = subst (λ (f : ℕ). slice_get c.args.schema.now f ≡ Some entry) field c.get_field_entry.ensures in
    let own = reader_at bodies c.args.schema.now whole place entry is there in
    let given : reader_of_field bodies c.from_field_id-field.result c.index_record_option-option.result ≡ Ok own.item =
    subst (λ (f : ℕ). reader_of_field bodies f c.index_record_option-option.result ≡ Ok own.item) (sym field) (subst (λ (o : IndexRecordOption). reader_of_field bodies place o ≡ Ok own.item) (sym c.index_record_option-option.ensures) own.given) in
    fault_of_field (requests_of c.args.terms.now c.args.ranges.now) whole place own.item c.in-Err.fault own.there
    (subst (λ (f : ℕ). IsCopyFault (all_lie (requests_of c.args.terms.now c.args.ranges.now f) own.item) (all_sound (requests_of c.args.terms.now c.args.ranges.now f) own.item.terms) c.in-Err.fault) field (c.in-Err.ensures.sound bodies own.item k given t_sound p_sound q_sound))

pub loop-place-preserved : goal.loop-place-preserved
loop-place-preserved g c = rw c.in_default.ensures.items (record {
  size = omega (arith, c.loop-place.invariant.size, length-append c.loop-place.readers.items (c.in-Ok.reader ∷ []));
  parts = λ bodies whole k is.
      let place = c.loop-place.place in
      let field = c.from_field_id-field.ensures in
      let entry = c.get_field_entry.result.now in
      let there : slice_get c.args.schema.now place ≡ Some entry = subst (λ (f : ℕ). slice_get c.args.schema.now f ≡ Some entry) field c.get_field_entry.ensures in
      let own = reader_at bodies c.args.schema.now whole place entry is there in
      let given : reader_of_field bodies c.from_field_id-field.result c.index_record_option-option.result ≡ Ok own.item =
      subst (λ (f : ℕ). reader_of_field bodies f c.index_record_option-option.result ≡ Ok own.item) (sym field) (subst (λ (o : IndexRecordOption). reader_of_field bodies place o ≡ Ok own.item) (sym c.index_record_option-option.ensures) own.given) in
      parts_next (requests_of c.args.terms.now c.args.ranges.now) whole place c.loop-place.readers.items c.in-Ok.reader own.item c.loop-place.invariant.size (c.loop-place.invariant.parts bodies whole k is) own.there
      (subst (λ (f : ℕ). IsPartOf (requests_of c.args.terms.now c.args.ranges.now f) c.in-Ok.reader own.item) field (c.in-Ok.ensures.warms bodies own.item k given).part);
})

pub returns-clause-parts : goal.returns-clause-parts
returns-clause-parts g c = λ bodies whole k is.
    parts_end (requests_of c.args.terms.now c.args.ranges.now) whole c.loop-place.place c.loop-place.readers.items c.loop-place.invariant.size
    (omega (arith, c.loop-place-test.false, c.num_fields-place-end.ensures.value, many_fields bodies c.args.schema.now whole is)) (c.loop-place.invariant.parts bodies whole k is)
