use Rattle.std.proofs.Common.{◌≡◌, map, string_bytes}
use Rattle.ii_query_grammar.specs.declared.sets.TheConstants.{MAX_SET_VALUES}
use Rattle.ii_query_grammar.specs.Lexemes.{set_values, with_values}
use Rattle.ii_query_grammar.proofs.sets.values_of.Given as goal

-- the values so far, and those that are left, are all
abbrev pub invariant-loop-texts : goal.invariant-loop-texts
invariant-loop-texts l = with_values (map (λ value. string_bytes value) l.texts.items) (set_values l.values.left l.values.size l.values.rest.now) ≡ set_values MAX_SET_VALUES l.size l.text

abbrev pub decreases-loop-texts : goal.decreases-loop-texts
decreases-loop-texts l = l.values.left
