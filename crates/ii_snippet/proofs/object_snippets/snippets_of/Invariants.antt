use Rattle.std.proofs.Common.{◌++◌, List, ℕ, drop, map, string_bytes}
use Rattle.ii_snippet.specs.FieldTexts.{field_text}
use Rattle.ii_snippet.specs.ObjectSnippets.{AreSnippets, rules_of}
use Rattle.ii_snippet.proofs.object_snippets.snippets_of.Given as goal

-- with the snippets of the texts that are left, they are those of all texts
abbrev pub invariant-loop-text : goal.invariant-loop-text
invariant-loop-text l =
    (later : List (List ℕ)) → AreSnippets (rules_of l.rules) (map field_text (drop l.text-index l.texts)) later
    → AreSnippets (rules_of l.rules) (map field_text l.texts) (map string_bytes l.snippets.items ++ later)
