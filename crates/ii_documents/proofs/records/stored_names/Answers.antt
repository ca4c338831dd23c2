use Rattle.std.proofs.Common.{◌≡◌, ◌∙◌, ◌≤◌, true, false, Some, ap, arith, length, rules, slice_get, sym}
use Rattle.ii_schema_text.specs.Stored.{is_set, stored_names}
use Rattle.ii_documents.specs.LineFields.{names_of}
use Rattle.ii_documents.proofs.RecordLemmas.{all_taken, name_passed, name_taken}
use Rattle.ii_documents.proofs.records.stored_names.Goals as goal
use Rattle.ii_documents.proofs.records.stored_names.Goals.{then-has_member+in_ok-push, else-has_member}

pub loop-id-preserved : goal.loop-id-preserved
loop-id-preserved c =
    let flags = c.args.stored.now.fields in
    let es = c.args.schema.now in
    let flag : c.has_member.result ≡ is_set (slice_get flags c.loop-id.id) = search rules in
    elim c.if-has_member.branch [
      | then-has_member+in_ok-push w ↦
          let here : slice_get es c.loop-id.id ≡ Some w.get_field_entry.result.now = search rules in
          name_taken flags es c.loop-id.id w.get_field_entry.result.now c.loop-id.names.items c.if-has_member.names.items w.name.result (stored_names flags es) here (sym flag ∙ w.if-has_member.true) w.name.ensures
          (ap (λ v. v.items) w.names-is ∙ w.in_ok-push.ensures.items) c.loop-id.invariant
      | else-has_member w ↦
          name_passed flags es c.loop-id.id c.loop-id.names.items c.if-has_member.names.items (stored_names flags es) (sym flag ∙ w.if-has_member.false) (ap (λ v. v.items) w.names-is) c.loop-id.invariant
    ]

pub returns-clause-names : goal.returns-clause-names
returns-clause-names c =
    let past : length c.args.schema.now ≤ c.loop-id.id = omega (arith, c.loop-id-test.false, c.num_fields-id-end.ensures.value) in
    all_taken c.args.stored.now.fields c.args.schema.now c.loop-id.id (names_of c.loop-id.names.items) (stored_names c.args.stored.now.fields c.args.schema.now) past c.loop-id.invariant
