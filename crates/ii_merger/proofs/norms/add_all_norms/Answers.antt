use Rattle.std.proofs.Common.{◌≡◌, ℕ, [], map, sym, subst, arith, Some, true, refl, length}
use Rattle.std.specs.Prelude.{◌⊎◌, slice_get}
use Rattle.std.specs.List.{AllByRecursion}
use Rattle.ii_io.specs.declared.faults.Fault.TheVariants.{Damaged, Limit, OutOfMemory}
use Rattle.ii_io.specs.declared.faults.LimitName.TheVariants.{Offset}
use Rattle.ii_io.specs.declared.faults.Part.TheVariants.{FieldNorms}
use Rattle.ii_base.specs.Schema.{keeps_norms}
use Rattle.ii_merger.specs.MergedIndex.{opened_segment}
use Rattle.ii_merger.specs.MergedNorms.{AddsNorms, HasAllNorms, merged_ids}
use Rattle.ii_merger.proofs.NormLemmas.{adding_next, adds_ended, all_here, all_next, below_next, no_fields, starts_none, wrong_norms}
use Rattle.ii_merger.proofs.norms.add_all_norms.Goals as goal
use Rattle.ii_io.specs.CountingWriter.{IsFull}

pub loop-place-init : goal.loop-place-init
loop-place-init c = record {
  unclosed = c.requires.open;
  below = starts_none c.args.serializer.now c.requires.fresh;
  adds = λ initial has. record { done = []; has = has; parts = refl };
  sound = λ all. all;
  whole = λ all. all;
}

pub loop-place-preserved : goal.loop-place-preserved
loop-place-preserved c =
    let ss = map opened_segment c.args.sources.now in
    let entries = c.args.schema.now in
    let place = c.loop-place.place in
    let entry = c.get_field_entry-entry.result.now in
    let field = c.from_field_id-field.ensures in
    let at : slice_get entries place ≡ Some entry = subst (λ (f : ℕ). slice_get entries f ≡ Some entry) field c.get_field_entry-entry.ensures in
    let old = c.loop-place.serializer in
    let new = c.add_field_norms.new.serializer in
    let added = subst (λ (f : ℕ). AddsNorms (keeps_norms entry) f (merged_ids f ss) old new) field c.in_default.ensures.adds in
    let own = subst (λ (f : ℕ). keeps_norms entry ≡ true → AllByRecursion (HasAllNorms f) ss) field c.in_default.ensures.sound in
    let P = λ (f : ℕ). AllByRecursion (HasAllNorms f) ss in
    let h = c.loop-place.invariant in
    record {
      unclosed = c.in_default.ensures.open;
      below = below_next entries ss place entry at old new h.below added;
      adds = λ initial has. adding_next entries ss place entry at initial old new (h.adds initial has) added;
      sound = λ rest. h.sound (all_next entries ss place entry at P own rest);
      whole = λ whole. (all_here entries ss place entry at P (h.whole whole)).1;
    }

pub returns-in-Err-clause-fault : goal.returns-in-Err-clause-fault
returns-in-Err-clause-fault c initial has =
    let ss = map opened_segment c.args.sources.now in
    let entries = c.args.schema.now in
    let place = c.loop-place.place in
    let entry = c.get_field_entry-entry.result.now in
    let now = c.loop-place.serializer in
    let field = c.from_field_id-field.ensures in
    let at : slice_get entries place ≡ Some entry = subst (λ (f : ℕ). slice_get entries f ≡ Some entry) field c.get_field_entry-entry.ensures in
    wrong_norms entries ss place entry at initial now c.in-Err.fault (c.loop-place.invariant.adds initial has) c.loop-place.invariant.whole
    (subst (λ (f : ℕ). (c.in-Err.fault ≡ OutOfMemory) ⊎ ((c.in-Err.fault ≡ Limit Offset) × (keeps_norms entry ≡ true) × IsFull now.writer (length (merged_ids f ss))) ⊎ ((c.in-Err.fault ≡ Damaged FieldNorms) × (keeps_norms entry ≡ true) × ¬ AllByRecursion (HasAllNorms f) ss)) field c.in-Err.ensures.fault)

pub returns-clause-adds : goal.returns-clause-adds
returns-clause-adds c =
    let ended = no_fields c.loop-place.place c.args.schema.now (omega (arith, c.loop-place-test.false, c.num_fields-place-end.ensures.value)) in
    λ initial has. adds_ended c.args.schema.now (map opened_segment c.args.sources.now) c.loop-place.place initial c.loop-place.serializer ended (c.loop-place.invariant.adds initial has)

pub returns-clause-sound : goal.returns-clause-sound
returns-clause-sound c =
    let ss = map opened_segment c.args.sources.now in
    let ended = no_fields c.loop-place.place c.args.schema.now (omega (arith, c.loop-place-test.false, c.num_fields-place-end.ensures.value)) in
    c.loop-place.invariant.sound (subst (AllByRecursion (λ (f : ℕ). AllByRecursion (HasAllNorms f) ss)) (sym ended) tt)
