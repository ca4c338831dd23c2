use Rattle.std.proofs.Common.{◌++◌, ◌∙◌, List, ℕ, ap, rules, string_bytes}
use Rattle.ii_query_grammar.specs.Spelling.{quoted}
use Rattle.ii_query_grammar.proofs.SetLemmas.{spells_value}
use Rattle.ii_query_grammar.proofs.user_input_ast.spell_values.Goals as goal

pub loop-value-preserved : goal.loop-value-preserved
loop-value-preserved c = (
  search rules,
  spells_value (λ value. string_bytes value) _ _ _ _ _ _ _ _ c.loop-value-test.true c.value-item.is c.loop-value.invariant.1 c.in_ok-push_str.ensures.bytes
      (c.in_ok-spell_quoted.ensures ∙ ap (λ (l : List ℕ). string_bytes c.push_str.new.self ++ quoted l) c.as_str.ensures.value),
)
