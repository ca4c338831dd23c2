use Rattle.std.proofs.Common.{◌≡◌, ◌++◌, drop, map}
use Rattle.serde_json.specs.View.{view}
use Rattle.ii_snippet.specs.FieldTexts.{field_text, texts_from, wanted_texts}
use Rattle.ii_snippet.specs.Wanted.{wanted_of}
use Rattle.ii_snippet.proofs.field_texts.wanted_texts.Given as goal

abbrev pub invariant-loop-id : goal.invariant-loop-id
invariant-loop-id l =
    map field_text l.texts.items ++ texts_from (map wanted_of l.words) (view l.value) l.id (drop l.id l.schema)
    ≡ wanted_texts (map wanted_of l.words) l.schema (view l.value)
