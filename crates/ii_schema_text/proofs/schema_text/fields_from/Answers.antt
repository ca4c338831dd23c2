use Rattle.std.proofs.Common.{◌≡◌, List, ◌∷◌, Ok, ◌∙◌, refl}
use Rattle.std.proofs.lemmas.List.{at_drop_more}
use Rattle.toml.specs.View.{items_view, view}
use Rattle.toml.specs.declared.value.Value.{Value}
use Rattle.ii_tokenizers.specs.declared.analyzer.Analyzer.{Analyzer}
use Rattle.ii_schema_text.specs.SchemaText.{TextSchemaState, field_in, fields_from}
use Rattle.ii_schema_text.proofs.schema_text.fields_from.Goals as goal

field_more : (otherwise : Analyzer) (before after : TextSchemaState) (value here : Value) (values : List Value) → field_in otherwise before (view value) ≡ Ok after → value ≡ here → fields_from otherwise before (items_view (here ∷ values)) ≡ fields_from otherwise after (items_view values)
field_more otherwise before after value here values read is =
    let known : field_in otherwise before (view here) ≡ Ok after = rw (← is) read in
    rw known refl

pub loop-field-preserved : goal.loop-field-preserved
loop-field-preserved c =
    let fields = c.deref-field-items.result.now in
    c.loop-field.invariant
    ∙ at_drop_more (λ (vs : List Value). fields_from c.args.default c.loop-field.read (items_view vs)) fields c.loop-field.field-index c.field-item.result c.loop-field-test.true
    ∙ field_more c.args.default c.loop-field.read _ c.field-item.result _ _ c.in_ok-read.ensures c.field-item.is
