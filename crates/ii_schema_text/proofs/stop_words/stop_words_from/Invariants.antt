use Rattle.std.proofs.Common.{◌≡◌, [], drop}
use Rattle.toml.specs.View.{items_view}
use Rattle.ii_schema_text.specs.SchemaText.{stop_words_from}
use Rattle.ii_schema_text.proofs.stop_words.stop_words_from.Given as goal

abbrev pub invariant-loop-word : goal.invariant-loop-word
invariant-loop-word l = stop_words_from [] (items_view l.word-items) ≡ stop_words_from l.stop_words (items_view (drop l.word-index l.word-items))
