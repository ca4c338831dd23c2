use Rattle.std.proofs.Common.{rules, Err, List, Ok, Result, ◌≡◌, ◌<◌, [], inl, inr, length, map, take, drop, ap, refl, sym, ◌∙◌, subst, arith, ℕ}
use Rattle.std.proofs.lemmas.List.{get_or_default, take-append-drop}
use Rattle.std.proofs.lemmas.Result.{err_from_is_err_and}
use Rattle.std.specs.List.{AllByRecursion}
use Rattle.std.specs.Prelude.{slice_index_or}
use Rattle.ii_io.specs.declared.faults.Fault.{Fault}
use Rattle.ii_definitions.proofs.ListLaws.{all_after}
use Rattle.ii_layout.proofs.BoundLemmas.{all_next}
use Rattle.ii_termdict.specs.ReadBack.{AreAscending}
use Rattle.ii_recorder.specs.IndexBodies.{LacksField}
use Rattle.ii_postings_writer.proofs.FaultLemmas.{IsNextField, all_some, field_fault, no_part}
use Rattle.ii_postings_writer.proofs.FieldEndings.{ends_between, refused_before, stays_between}
use Rattle.ii_postings_writer.proofs.FieldLists.{ascend, count, ends_context, fault_of, had, writable, written, wrote_all, wrote_it}
use Rattle.ii_postings_writer.proofs.HeldBodies.{wrote_tokens}
use Rattle.ii_postings_writer.proofs.PartLemmas.{lacks_next, next_part}
use Rattle.ii_postings_writer.proofs.ResolvedParts.{have_unless}
use Rattle.ii_postings_writer.specs.FieldParts.{HasFields, first_parts}
use Rattle.ii_postings_writer.specs.ResolvedTerms.{json_fields, resolved_terms}
use Rattle.ii_postings_writer.specs.SortedTerms.{IsWritable, SortedTerm, norms_in}
use Rattle.ii_postings_writer.proofs.postings_writer.serialize_postings.Goals as goal

pub field_terms-requires : goal.field_terms-requires
field_terms-requires g c = record { terms = (c.args.fieldnorm_readers.now, c.requires.terms) }

pub overflow_cast-place : goal.overflow_cast-place
overflow_cast-place g c =
    let low = c.loop-place-test.true in
    let inside : c.loop-place.place < length c.in_ok-terms.terms.items = omega (arith, low, c.len-place-end.ensures) in
    omega (arith, inside, count c.args.serializer.now c.args.schema.now c.requires.schema c.args.fieldnorm_readers.now c.args.ctx.path_to_unordered_id c.args.ctx.term_index c.in_ok-terms.terms.items c.requires.terms c.in_ok-terms.ensures.ok, ap length c.requires.schema, c.in_ok-terms.ensures.ok.few_fields)

pub serialize_field-told-requires-clause-known : goal.serialize_field-told-requires-clause-known
serialize_field-told-requires-clause-known g c =
    let low = c.loop-place-test.true in
    let inside : c.loop-place.place < length c.in_ok-terms.terms.items = omega (arith, low, c.len-place-end.ensures) in
    omega (arith, inside, count c.args.serializer.now c.args.schema.now c.requires.schema c.args.fieldnorm_readers.now c.args.ctx.path_to_unordered_id c.args.ctx.term_index c.in_ok-terms.terms.items c.requires.terms c.in_ok-terms.ensures.ok, ap length c.loop-place.invariant.2, c.from_field_id-field.ensures)

pub serialize_field-told-requires-clause-writer : goal.serialize_field-told-requires-clause-writer
serialize_field-told-requires-clause-writer g c =
    let low = c.loop-place-test.true in
    let inside : c.loop-place.place < length c.in_ok-terms.terms.items = omega (arith, low, c.len-place-end.ensures) in
    omega (arith, inside, count c.args.serializer.now c.args.schema.now c.requires.schema c.args.fieldnorm_readers.now c.args.ctx.path_to_unordered_id c.args.ctx.term_index c.in_ok-terms.terms.items c.requires.terms c.in_ok-terms.ensures.ok, ap length c.requires.schema, c.requires.writers, c.from_field_id-field.ensures)

pub serialize_field-told-requires-clause-lacks : goal.serialize_field-told-requires-clause-lacks
serialize_field-told-requires-clause-lacks g c _ =
    let low = c.loop-place-test.true in
    let inside : c.loop-place.place < length c.in_ok-terms.terms.items = omega (arith, low, c.len-place-end.ensures) in
    subst (λ (field : ℕ). LacksField field c.loop-place.serializer.bodies) (sym c.from_field_id-field.ensures)
    (lacks_next c.args.serializer.now.entries c.args.per_field_postings_writers.now c.args.fieldnorm_readers.now c.in_ok-terms.terms.items c.loop-place.place c.args.serializer.now.bodies c.loop-place.serializer.bodies
    (omega (arith, inside, count c.args.serializer.now c.args.schema.now c.requires.schema c.args.fieldnorm_readers.now c.args.ctx.path_to_unordered_id c.args.ctx.term_index c.in_ok-terms.terms.items c.requires.terms c.in_ok-terms.ensures.ok, ap length c.requires.schema, c.in_ok-terms.ensures.ok.few_fields)) c.loop-place.invariant.0)

pub serialize_field-told-requires-clause-ascending : goal.serialize_field-told-requires-clause-ascending
serialize_field-told-requires-clause-ascending g c =
    let low = c.loop-place-test.true in
    let inside : c.loop-place.place < length c.in_ok-terms.terms.items = omega (arith, low, c.len-place-end.ensures) in
    let at = c.index.ensures ∙ get_or_default c.in_ok-terms.terms.items c.loop-place.place c.index.result.now [] inside in
    let ascends : List SortedTerm → Type 0 = λ (ts : List SortedTerm). AreAscending (map (λ (t : SortedTerm). t.key) ts) in
    subst ascends (sym at)
    (all_next ascends c.in_ok-terms.terms.items c.loop-place.place [] inside (all_after ascends (take c.loop-place.place c.in_ok-terms.terms.items) (drop c.loop-place.place c.in_ok-terms.terms.items) (subst (AllByRecursion ascends) (sym (take-append-drop c.loop-place.place c.in_ok-terms.terms.items)) (ascend c.args.serializer.now c.args.schema.now c.requires.schema c.args.fieldnorm_readers.now c.args.ctx.path_to_unordered_id c.args.ctx.term_index c.in_ok-terms.terms.items c.requires.terms c.in_ok-terms.ensures.ok)))).0

pub serialize_field-told-requires-clause-writable : goal.serialize_field-told-requires-clause-writable
serialize_field-told-requires-clause-writable g c =
    let low = c.loop-place-test.true in
    let inside : c.loop-place.place < length c.in_ok-terms.terms.items = omega (arith, low, c.len-place-end.ensures) in
    let at = c.index.ensures ∙ get_or_default c.in_ok-terms.terms.items c.loop-place.place c.index.result.now [] inside in
    subst (AllByRecursion (IsWritable (norms_in c.args.fieldnorm_readers.now c.from_field_id-field.result))) (sym at)
    (subst (λ (f : ℕ). AllByRecursion (IsWritable (norms_in c.args.fieldnorm_readers.now f)) (slice_index_or c.in_ok-terms.terms.items c.loop-place.place [])) (sym c.from_field_id-field.ensures)
    (writable c.args.serializer.now c.args.schema.now c.requires.schema c.args.fieldnorm_readers.now c.args.ctx.path_to_unordered_id c.args.ctx.term_index c.in_ok-terms.terms.items c.requires.terms c.in_ok-terms.ensures.ok c.loop-place.place inside))

pub loop-place-preserved : goal.loop-place-preserved
loop-place-preserved g c =
    let w = c.loop-place.invariant in
    let low = c.loop-place-test.true in
    let inside : c.loop-place.place < length c.in_ok-terms.terms.items = omega (arith, low, c.len-place-end.ensures) in
    let at = c.index.ensures ∙ get_or_default c.in_ok-terms.terms.items c.loop-place.place c.index.result.now [] inside in
    let fs = first_parts c.args.serializer.now.entries c.args.per_field_postings_writers.now c.args.fieldnorm_readers.now c.in_ok-terms.terms.items c.loop-place.place in
    let wrote = c.in-Ok.ensures.wrote c.args.serializer.now.bodies fs (subst (λ es. HasFields es c.args.serializer.now.bodies c.loop-place.serializer.bodies fs) (sym w.2) w.0) in (
      next_part c.args.serializer.now.entries c.loop-place.serializer.entries c.args.per_field_postings_writers.now c.args.fieldnorm_readers.now c.in_ok-terms.terms.items c.loop-place.place c.from_field_id-field.result c.index.result.now c.args.serializer.now.bodies c.serialize_field-told.new.serializer.bodies
          w.2 c.from_field_id-field.ensures at wrote,
      c.in-Ok.ensures.ends.closes ∙ w.1,
      c.serialize_field-told.ensures.ends.entries ∙ w.2,
      λ closed.
          (let before = w.3 closed in
          let stays = c.in-Ok.ensures.ends.refused (w.1 ∙ closed) in
          (stays.same ∙ before.0, no_part c.args.serializer.now.entries c.args.per_field_postings_writers.now c.args.fieldnorm_readers.now c.in_ok-terms.terms.items c.loop-place.place c.index.result.now at stays.none before.1)),
    )

pub returns-clause-wrote : goal.returns-clause-wrote
returns-clause-wrote g c =
    let all : c.loop-place.place ≡ length c.in_ok-terms.terms.items = search rules in
    let fields = subst (λ (n : ℕ). HasFields c.args.serializer.now.entries c.args.serializer.now.bodies c.loop-place.serializer.bodies (first_parts c.args.serializer.now.entries c.args.per_field_postings_writers.now c.args.fieldnorm_readers.now c.in_ok-terms.terms.items n)) all c.loop-place.invariant.0 in
    wrote_it c.args.serializer.now c.args.schema.now c.requires.schema c.args.fieldnorm_readers.now c.args.ctx.path_to_unordered_id c.args.ctx.term_index c.in_ok-terms.terms.items c.requires.terms c.in_ok-terms.ensures.ok c.args.per_field_postings_writers.now (Ok tt) c.loop-place.serializer fields

pub returns-clause-holds : goal.returns-clause-holds
returns-clause-holds g c ts has =
    let all : c.loop-place.place ≡ length c.in_ok-terms.terms.items = search rules in
    let fields = subst (λ (n : ℕ). HasFields c.args.serializer.now.entries c.args.serializer.now.bodies c.loop-place.serializer.bodies (first_parts c.args.serializer.now.entries c.args.per_field_postings_writers.now c.args.fieldnorm_readers.now c.in_ok-terms.terms.items n)) all c.loop-place.invariant.0 in
    let schema = c.args.schema.now in
    let paths = c.args.ctx.path_to_unordered_id in
    let ok : Result (Unit {0}) Fault = Ok tt in
    wrote_tokens ok c.holds_its_tokens.ensures c.bounds_its_tokens.ensures c.args.serializer.now c.loop-place.serializer c.args.per_field_postings_writers.now c.args.fieldnorm_readers.now
    (resolved_terms (json_fields schema) paths c.args.ctx.term_index) (resolved_terms (json_fields schema) paths c.in_ok-terms.ensures.ok.sorted) ts
    (written c.args.serializer.now c.args.schema.now c.requires.schema c.args.fieldnorm_readers.now c.args.ctx.path_to_unordered_id c.args.ctx.term_index c.in_ok-terms.terms.items c.requires.terms c.in_ok-terms.ensures.ok c.args.per_field_postings_writers.now ts has) (wrote_all c.args.serializer.now c.args.schema.now c.requires.schema c.args.fieldnorm_readers.now c.args.ctx.path_to_unordered_id c.args.ctx.term_index c.in_ok-terms.terms.items c.requires.terms c.in_ok-terms.ensures.ok c.args.per_field_postings_writers.now (Ok tt) c.loop-place.serializer fields)

pub returns-clause-tokens : goal.returns-clause-tokens
returns-clause-tokens g c ts has =
    let ok : Result (Unit {0}) Fault = Ok tt in
    have_unless _ ok (had c.args.serializer.now c.args.schema.now c.requires.schema c.args.fieldnorm_readers.now c.args.ctx.path_to_unordered_id c.args.ctx.term_index c.in_ok-terms.terms.items c.requires.terms c.in_ok-terms.ensures.ok c.args.per_field_postings_writers.now ts has)

pub returns-clause-ends : goal.returns-clause-ends
returns-clause-ends g c =
    let w = c.loop-place.invariant in
    let all : c.loop-place.place ≡ length c.in_ok-terms.terms.items = search rules in
    ends_context c.args.serializer.now c.args.schema.now c.requires.schema c.args.fieldnorm_readers.now c.args.ctx.path_to_unordered_id c.args.ctx.term_index c.in_ok-terms.terms.items c.requires.terms c.in_ok-terms.ensures.ok c.args.per_field_postings_writers.now (Ok tt) c.loop-place.serializer
    (record {
      entries = w.2;
      closes = w.1;
      failures = search rules;
      grow = search rules;
      closed = search rules;
      refused = λ closed. record { same = (w.3 closed).0; none = subst (λ (n : ℕ). first_parts c.args.serializer.now.entries c.args.per_field_postings_writers.now c.args.fieldnorm_readers.now c.in_ok-terms.terms.items n ≡ []) all (w.3 closed).1; only = tt };
    })

pub returns-in_default-clause-fault : goal.returns-in_default-clause-fault
returns-in_default-clause-fault g c =
    let w = c.loop-place.invariant in
    let low = c.loop-place-test.true in
    let inside : c.loop-place.place < length c.in_ok-terms.terms.items = omega (arith, low, c.len-place-end.ensures) in
    let at = c.index.ensures ∙ get_or_default c.in_ok-terms.terms.items c.loop-place.place c.index.result.now [] inside in
    let next : IsNextField c.args.serializer.now.entries c.loop-place.serializer.entries c.in_ok-terms.terms.items c.loop-place.place c.from_field_id-field.result c.index.result.now = record { schema = c.loop-place.invariant.2; number = c.from_field_id-field.ensures; at = at; some = c.in_default.ensures.some; low = inside } in
    rw c.in_default.is (fault_of c.args.serializer.now c.args.schema.now c.requires.schema c.args.fieldnorm_readers.now c.args.ctx.path_to_unordered_id c.args.ctx.term_index c.in_ok-terms.terms.items c.requires.terms c.in_ok-terms.ensures.ok c.args.per_field_postings_writers.now (Err c.in_default.field-0) c.serialize_field-told.new.serializer
    (field_fault c.args.serializer.now.entries c.loop-place.serializer.entries c.args.per_field_postings_writers.now c.args.fieldnorm_readers.now c.in_ok-terms.terms.items c.loop-place.place c.from_field_id-field.result c.index.result.now next
    c.args.serializer.now.bodies c.loop-place.serializer.bodies c.in_default.field-0 w.0 c.in_default.ensures.fault))

pub returns-in_default-clause-ends : goal.returns-in_default-clause-ends
returns-in_default-clause-ends g c =
    let w = c.loop-place.invariant in
    let low = c.loop-place-test.true in
    let inside : c.loop-place.place < length c.in_ok-terms.terms.items = omega (arith, low, c.len-place-end.ensures) in
    let at = c.index.ensures ∙ get_or_default c.in_ok-terms.terms.items c.loop-place.place c.index.result.now [] inside in
    let next : IsNextField c.args.serializer.now.entries c.loop-place.serializer.entries c.in_ok-terms.terms.items c.loop-place.place c.from_field_id-field.result c.index.result.now = record { schema = c.loop-place.invariant.2; number = c.from_field_id-field.ensures; at = at; some = c.in_default.ensures.some; low = inside } in
    let parts = first_parts c.args.serializer.now.entries c.args.per_field_postings_writers.now c.args.fieldnorm_readers.now c.in_ok-terms.terms.items in
    rw c.in_default.is (ends_context c.args.serializer.now c.args.schema.now c.requires.schema c.args.fieldnorm_readers.now c.args.ctx.path_to_unordered_id c.args.ctx.term_index c.in_ok-terms.terms.items c.requires.terms c.in_ok-terms.ensures.ok c.args.per_field_postings_writers.now (Err c.in_default.field-0) c.serialize_field-told.new.serializer
    (ends_between (parts (length c.in_ok-terms.terms.items)) c.index.result.now c.args.serializer.now c.loop-place.serializer c.serialize_field-told.new.serializer (parts c.loop-place.place) c.in_default.field-0 w.0 w.1 w.2 (λ closed. (w.3 closed).0)
    (all_some c.args.serializer.now.entries c.loop-place.serializer.entries c.args.per_field_postings_writers.now c.args.fieldnorm_readers.now c.in_ok-terms.terms.items c.loop-place.place c.from_field_id-field.result c.index.result.now next) c.in_default.ensures.ends))

pub returns-in_default-clause-err : goal.returns-in_default-clause-err
returns-in_default-clause-err g c =
    let w = c.loop-place.invariant in
    rw c.in_default.is (stays_between c.args.serializer.now c.loop-place.serializer c.serialize_field-told.new.serializer
    (first_parts c.args.serializer.now.entries c.args.per_field_postings_writers.now c.args.fieldnorm_readers.now c.in_ok-terms.terms.items c.loop-place.place) c.in_default.field-0 w.0 w.1 c.in_default.ensures.err)

pub returns-in_default-clause-tokens : goal.returns-in_default-clause-tokens
returns-in_default-clause-tokens g c ts has = have_unless _ c.serialize_field-told.result (had c.args.serializer.now c.args.schema.now c.requires.schema c.args.fieldnorm_readers.now c.args.ctx.path_to_unordered_id c.args.ctx.term_index c.in_ok-terms.terms.items c.requires.terms c.in_ok-terms.ensures.ok c.args.per_field_postings_writers.now ts has)

pub returns-in_err-terms-clause-ends : goal.returns-in_err-terms-clause-ends
returns-in_err-terms-clause-ends g c =
    let p = err_from_is_err_and c.from_residual.result c.from_residual.ensures.1 in
    rw (p.1, p.2) (refused_before c.args.ctx.term_index c.args.serializer.now c.args.serializer.now c.in_err-terms.field-0.0 c.in_err-terms.ensures.only)

pub returns-in_err-terms-clause-err : goal.returns-in_err-terms-clause-err
returns-in_err-terms-clause-err g c =
    let p = err_from_is_err_and c.from_residual.result c.from_residual.ensures.1 in
    rw (p.1, p.2) (inr (c.in_err-terms.ensures.only, record { fs = []; fields = c.requires.fresh; closed = refl }))

pub returns-in_err-terms-clause-fault : goal.returns-in_err-terms-clause-fault
returns-in_err-terms-clause-fault g c =
    let p = err_from_is_err_and c.from_residual.result c.from_residual.ensures.1 in
    rw (p.1, p.2) (inl c.in_err-terms.ensures.only)
