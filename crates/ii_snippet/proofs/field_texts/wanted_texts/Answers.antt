use Rattle.std.proofs.Common.{map, rules}
use Rattle.serde_json.specs.View.{view}
use Rattle.ii_snippet.specs.FieldTexts.{field_text, wanted_texts}
use Rattle.ii_snippet.specs.Wanted.{wanted_of}
use Rattle.ii_snippet.proofs.FieldTextLemmas.{field_added}
use Rattle.ii_snippet.proofs.field_texts.wanted_texts.Goals as goal

pub loop-id-preserved : goal.loop-id-preserved
loop-id-preserved c =
    let ws = map wanted_of c.args.words.now in
    let d = view c.args.value.now in
    field_added ws d c.args.schema.now c.loop-id.id c.get_field_entry.result.now (map field_text c.loop-id.texts.items) (map field_text c.push_field.new.texts.items) (wanted_texts ws c.args.schema.now d) (search rules) (rw c.from_field_id-field.ensures at c.in_ok-push_field.ensures.texts) c.loop-id.invariant
