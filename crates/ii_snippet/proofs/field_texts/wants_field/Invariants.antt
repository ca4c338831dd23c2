use Rattle.std.proofs.Common.{◌≡◌, drop, map}
use Rattle.std.specs.List.{list_any}
use Rattle.ii_snippet.specs.FieldTexts.{is_of_field}
use Rattle.ii_snippet.specs.Wanted.{wanted_of}
use Rattle.ii_snippet.proofs.field_texts.wants_field.Given as goal

abbrev pub invariant-loop-word : goal.invariant-loop-word
invariant-loop-word l = list_any (is_of_field l.field) (map wanted_of (drop l.word-index l.words)) ≡ list_any (is_of_field l.field) (map wanted_of l.words)
