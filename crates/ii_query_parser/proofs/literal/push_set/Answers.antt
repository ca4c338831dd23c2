use Rattle.std.proofs.Common.{◌≡◌, ◌∙◌, false, string_bytes, sym}
use Rattle.ii_query_parser.specs.QueryTexts.{FieldTexts, field_named, names_field}
use Rattle.ii_query_parser.proofs.SetLemmas.{none_named, value_refused}
use Rattle.ii_query_parser.proofs.literal.push_set.Goals as goal

pub returns-in-Err : goal.returns-in-Err
returns-in-Err g c =
    let q : FieldTexts = record { analyze = g.F.FieldAnalyzers.words c.args.analyzers.now; entries = c.args.schema.now } in
    rw (← c.deref-value-items.ensures.value)
    (value_refused (λ value. string_bytes value) q (string_bytes c.args.set.now.field_name) c.deref-value-items.result.now c.loop-value.value-index c.value-item.result c.loop-value-test.true c.value-item.is
    c.args.terms.now.items c.loop-value.terms.items c.push_named.new.terms.items c.in-Err.error c.loop-value.invariant
    (rw (c.as_str.ensures.value, c.as_str-name.ensures.value) at c.in-Err.ensures))

pub returns-then-not-names_field : goal.returns-then-not-names_field
returns-then-not-names_field g c =
    let q : FieldTexts = record { analyze = g.F.FieldAnalyzers.words c.args.analyzers.now; entries = c.args.schema.now } in
    let name = c.as_str-name.result.now in
    let told : names_field q.entries name (field_named q.entries name) ≡ false = sym c.names_field.ensures ∙ c.if-not-names_field.true in
    let unnamed : names_field q.entries (string_bytes c.args.set.now.field_name) (field_named q.entries (string_bytes c.args.set.now.field_name)) ≡ false = rw (c.as_str-name.ensures.value) at told in
    rw (← c.deref-value-items.ensures.value)
    (none_named (λ value. string_bytes value) q (string_bytes c.args.set.now.field_name) c.deref-value-items.result.now c.loop-value.value-index c.args.terms.now.items c.loop-value.terms.items c.loop-value-test.false c.loop-value.invariant unnamed)
