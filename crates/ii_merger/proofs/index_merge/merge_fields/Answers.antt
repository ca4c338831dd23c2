use Rattle.std.proofs.Common.{◌≡◌, ◌∙◌, ◌+◌, ◌<◌, ℕ, List, Result, get_or, length, map, refl, sym, ap, subst, arith}
use Rattle.std.specs.Prelude.{◌⊎◌, IfErr, OnOk}
use Rattle.std.proofs.lemmas.List.FromFn.{get_or-map-range_with_len}
use Rattle.ii_io.specs.declared.faults.Fault.{Fault}
use Rattle.ii_io.specs.declared.faults.Fault.TheVariants.{OutOfMemory}
use Rattle.ii_definitions.specs.Postings.{field_count}
use Rattle.ii_segments.specs.Segments.{index_tokens}
use Rattle.ii_merger.specs.MergedField.{IsMergedFieldFault, WroteMergedField}
use Rattle.ii_merger.specs.MergedIndex.{FieldsBelow, Merging, field_sources, norms_of_field, opened_segment}
use Rattle.ii_merger.specs.SourcesHold.{WroteField}
use Rattle.ii_merger.proofs.FileLemmas.{none_below, none_merged}
use Rattle.ii_merger.proofs.IndexMergeLemmas.{below_after, field_merged}
use Rattle.ii_merger.proofs.MergeLemmas.{went_well}
use Rattle.ii_merger.proofs.PartLemmas.{ends_none, ends_then, ends_well, field_written, fields_fail, none_written}
use Rattle.ii_merger.proofs.index_merge.merge_fields.Goals as goal

pub loop-place-init : goal.loop-place-init
loop-place-init g c = record {
  below = none_below c.args.serializer.now.bodies c.requires.begun;
  holds = λ ss hold counts. none_merged c.args.schema.now c.args.serializer.now.bodies c.args.norms.now (index_tokens ss) c.requires.begun;
  wrote = none_written (record { entries = c.args.schema.now; num_tokens = c.args.num_tokens.now; norms = c.args.norms.now; segments = map opened_segment c.args.sources.now }) c.args.serializer.now.bodies c.requires.begun;
  ends = ends_none c.args.serializer.now c.requires.open;
}

pub returns-then-is_err-clause-fault : goal.returns-then-is_err-clause-fault
returns-then-is_err-clause-fault g c =
    let m : Merging = record { entries = c.args.schema.now; num_tokens = c.args.num_tokens.now; norms = c.args.norms.now; segments = map opened_segment c.args.sources.now } in
    let old = c.loop-place.serializer.bodies in
    let total = get_or c.args.num_tokens.now c.loop-place.place 0 in
    fields_fail m c.loop-place.place c.args.serializer.now.bodies old c.add_field-added.new.serializer.bodies c.loop-place.invariant.wrote total c.add_field-added.result refl
    (subst (λ (f : ℕ). IfErr c.add_field-added.result (λ (e : Fault). (e ≡ OutOfMemory) ⊎ ((0 < total) × IsMergedFieldFault m.entries f total (norms_of_field m.norms f) (field_sources f m.segments) old e))) c.from_field_id-field.ensures c.add_field-added.ensures.fault)

pub returns-then-is_err-clause-ends : goal.returns-then-is_err-clause-ends
returns-then-is_err-clause-ends g c =
    ends_then c.args.serializer.now c.loop-place.serializer c.add_field-added.new.serializer c.add_field-added.result c.loop-place.invariant.ends c.add_field-added.ensures.ends

pub loop-place-preserved : goal.loop-place-preserved
loop-place-preserved g c =
    let r = c.add_field-added.result in
    let went = sym c.is_err.ensures.value ∙ c.if-is_err.false in
    let m : Merging = record { entries = c.args.schema.now; num_tokens = c.args.num_tokens.now; norms = c.args.norms.now; segments = map opened_segment c.args.sources.now } in
    let first = c.args.serializer.now.bodies in
    let old = c.loop-place.serializer.bodies in
    let new = c.add_field-added.new.serializer.bodies in
    let place = c.loop-place.place in
    let own = c.from_field_id-field.result in
    let field = c.from_field_id-field.ensures in
    let total = get_or c.args.num_tokens.now place 0 in
    record {
      below = subst (λ (f : ℕ). FieldsBelow (f + 1) new) field (went_well _ r went (below_after own total m.entries (norms_of_field m.norms own) (field_sources own m.segments) old new r c.add_field-added.ensures.none c.add_field-added.ensures.wrote (subst (λ (f : ℕ). FieldsBelow f old) (sym field) c.loop-place.invariant.below)));
      holds = λ ss hold counts.
          let ts = index_tokens ss in
          let counted : total ≡ field_count place ts =
          ap (λ (ns : List ℕ). get_or ns place 0) counts ∙ get_or-map-range_with_len (λ (f : ℕ). field_count f ts) 0 (length c.args.schema.now) place place 0 (omega (arith, c.loop-place-test.true, c.requires.counts)) (omega arith) in
          field_merged c.args.schema.now first place c.args.norms.now ts old new total (c.loop-place.invariant.holds ss hold counts) counted
          (λ zero. went_well _ r went (c.add_field-added.ensures.none zero))
          (λ is some. subst (λ (f : ℕ). WroteField c.args.schema.now old new f (norms_of_field m.norms f) ts) field (went_well _ r went (c.add_field-added.ensures.holds ss hold (is ∙ ap (λ (f : ℕ). field_count f ts) (sym field)) some)));
      wrote = field_written m place first old new c.loop-place.invariant.wrote total refl
          (λ zero. went_well _ r went (c.add_field-added.ensures.none zero))
          (λ some. subst (λ (f : ℕ). WroteMergedField m.entries f total (norms_of_field m.norms f) (field_sources f m.segments) old new) field (went_well _ r went (c.add_field-added.ensures.wrote some)));
      ends = ends_then c.args.serializer.now c.loop-place.serializer c.add_field-added.new.serializer _ c.loop-place.invariant.ends (ends_well c.loop-place.serializer c.add_field-added.new.serializer r went c.add_field-added.ensures.ends);
    }
