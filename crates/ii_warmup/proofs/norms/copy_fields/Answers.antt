use Rattle.std.proofs.Common.{◌+◌, ◌^◌, ◌≤◌, Bool, arith, map, subst, ℕ}
use Rattle.ii_warmup.specs.CopiedNorms.{CopiesNorms}
use Rattle.ii_warmup.specs.QueryTerms.{names_field, range_view, term_view}
use Rattle.ii_warmup.proofs.NormLemmas.{copied_next, copying_none, none_below, none_started, starts_next}
use Rattle.ii_warmup.proofs.norms.copy_fields.Goals as goal

pub loop-place-init : goal.loop-place-init
loop-place-init g c = record {
  unclosed = c.requires.open;
  below = none_below c.args.serializer.now c.requires.fresh;
  copies = λ initial has. copying_none (names_field (map term_view c.args.terms.now) (map range_view c.args.ranges.now)) (g.H.FileHandle.bytes c.args.slices.now.file) initial c.args.serializer.now has;
}

pub loop-place-preserved : goal.loop-place-preserved
loop-place-preserved g c =
    let h = c.loop-place.invariant in
    let place = c.loop-place.place in
    let names = names_field (map term_view c.args.terms.now) (map range_view c.args.ranges.now) in
    let known = g.H.FileHandle.bytes c.args.slices.now.file in
    let old = c.loop-place.serializer in
    let new = c.copy_field.new.serializer in
    let few : place + 1 ≤ 2 ^ 32 = omega (arith, c.loop-place-test.true, c.num_fields-place-end.ensures.value, c.num_fields-place-end.ensures.bound) in
    let copied : CopiesNorms (names place) known place old new =
    subst (λ (f : ℕ). CopiesNorms (names f) known f old new) c.from_field_id-field.ensures (subst (λ (b : Bool). CopiesNorms b known c.from_field_id-field.result old new) c.names_field-wanted.ensures c.in_default.ensures.copies) in
    record {
      unclosed = c.in_default.ensures.open;
      below = starts_next place copied.found old new h.below copied.adds;
      copies = λ initial has. copied_next names known initial place old new few (h.copies initial has) copied;
    }

pub copy_field-requires-clause-unwritten : goal.copy_field-requires-clause-unwritten
copy_field-requires-clause-unwritten g c =
    rw c.from_field_id-field.ensures (none_started c.loop-place.place c.loop-place.serializer.starts c.loop-place.invariant.below.below)

pub copy_field-requires-clause-few : goal.copy_field-requires-clause-few
copy_field-requires-clause-few g c = omega (arith, c.loop-place.invariant.below.few, c.loop-place-test.true, c.num_fields-place-end.ensures.value, c.num_fields-place-end.ensures.bound)
