use Rattle.std.proofs.Common.{◌≡◌, ◌++◌, [], drop, map, string_bytes}
use denote.Text.{Utf8}
use denote.Shadow.{shadow}
use Rattle.ii_query_grammar.specs.Spelling.{values_text}
use Rattle.ii_query_grammar.proofs.user_input_ast.spell_values.Given as goal

abbrev pub invariant-loop-value : goal.invariant-loop-value
invariant-loop-value l =
    shadow (Utf8 l.before)
    × (string_bytes l.initial.text ++ values_text [] (map (λ value. string_bytes value) l.value-items) ≡ string_bytes l.text ++ values_text l.before (map (λ value. string_bytes value) (drop l.value-index l.value-items)))
