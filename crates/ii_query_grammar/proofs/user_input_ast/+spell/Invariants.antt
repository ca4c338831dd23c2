use Rattle.std.proofs.Common.{◌≡◌, ◌++◌, [], drop, map, string_bytes}
use denote.Text.{Utf8}
use denote.Shadow.{shadow}
use Rattle.ii_query_grammar.specs.Spelling.{parts_text}
use Rattle.ii_query_grammar.specs.Trees.{ast_of, asts_from}
use Rattle.ii_query_grammar.proofs.user_input_ast.+spell.Given as goal

abbrev pub invariant-spell_parts-loop-part : goal.invariant-spell_parts-loop-part
invariant-spell_parts-loop-part l =
    shadow (Utf8 l.before)
    × (string_bytes l.initial.text ++ parts_text [] l.between (asts_from (map ast_of l.part-items)) ≡ string_bytes l.text ++ parts_text l.before l.between (asts_from (map ast_of (drop l.part-index l.part-items))))
