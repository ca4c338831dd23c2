use Rattle.std.proofs.Common.{◌≡◌, ◌++◌, drop, map}
use Rattle.serde_json.specs.View.{items_view}
use Rattle.ii_snippet.specs.FieldTexts.{field_text, in_field, texts_among}
use Rattle.ii_snippet.proofs.field_texts.push_all.Given as goal

abbrev pub invariant-loop-value : goal.invariant-loop-value
invariant-loop-value l =
    map field_text l.texts.items ++ map (in_field l.field) (texts_among (items_view (drop l.value-index l.values)))
    ≡ map field_text l.fn.texts.items ++ map (in_field l.field) (texts_among (items_view l.values))
