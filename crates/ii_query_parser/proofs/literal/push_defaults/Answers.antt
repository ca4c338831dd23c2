use Rattle.std.proofs.Common.{◌≡◌, ◌<◌, length, rules}
use Rattle.ii_query_parser.specs.QueryTexts.{FieldTexts}
use Rattle.ii_query_parser.proofs.TermLemmas.{gathers_all, gathers_more, gathers_none, gathers_nothing, gathers_refused}
use Rattle.ii_query_parser.proofs.literal.push_defaults.Goals as goal

pub loop-field-init : goal.loop-field-init
loop-field-init g c = gathers_none (record { analyze = g.L.LiteralAnalyzers.words c.args.analyzers.now; entries = c.args.schema.now }) c.args.phrase.now c.args.default_fields.now c.args.terms.now.items

pub loop-field-preserved : goal.loop-field-preserved
loop-field-preserved g c =
    let q : FieldTexts = record { analyze = g.L.LiteralAnalyzers.words c.args.analyzers.now; entries = c.args.schema.now } in
    let inside : c.loop-field.field-index < length c.args.default_fields.now = search rules in
    gathers_more q c.args.phrase.now c.args.default_fields.now c.loop-field.field-index c.field-item.result c.loop-field.left_out c.in-Ok.left c.or-left_out.result c.args.terms.now.items c.loop-field.terms.items c.push_default.new.terms.items
    inside c.field-item.is c.loop-field.invariant c.in-Ok.ensures (search rules)

pub returns-in-Err : goal.returns-in-Err
returns-in-Err g c =
    let q : FieldTexts = record { analyze = g.L.LiteralAnalyzers.words c.args.analyzers.now; entries = c.args.schema.now } in
    let inside : c.loop-field.field-index < length c.args.default_fields.now = search rules in
    gathers_refused q c.args.phrase.now c.args.default_fields.now c.loop-field.field-index c.field-item.result c.loop-field.left_out c.args.terms.now.items c.loop-field.terms.items c.push_default.new.terms.items c.in-Err.error inside c.field-item.is c.loop-field.invariant (search rules)

pub returns-then-len-before : goal.returns-then-len-before
returns-then-len-before g c =
    let q : FieldTexts = record { analyze = g.L.LiteralAnalyzers.words c.args.analyzers.now; entries = c.args.schema.now } in
    let same : length c.loop-field.terms.items ≡ length c.args.terms.now.items = search rules in
    gathers_nothing q c.args.phrase.now c.args.default_fields.now c.loop-field.field-index c.loop-field.left_out c.args.terms.now.items c.loop-field.terms.items c.check_none.result (search rules) (search rules) same c.loop-field.invariant c.check_none.ensures.none c.check_none.ensures.refused

pub returns : goal.returns
returns g c =
    let q : FieldTexts = record { analyze = g.L.LiteralAnalyzers.words c.args.analyzers.now; entries = c.args.schema.now } in
    let more : length c.loop-field.terms.items ≡ length c.args.terms.now.items → ⊥ = λ same. c.if-len-before.false (search rules) in
    gathers_all q c.args.phrase.now c.args.default_fields.now c.loop-field.field-index c.loop-field.left_out c.args.terms.now.items c.loop-field.terms.items (search rules) (search rules) more c.loop-field.invariant
