use Rattle.std.proofs.Common.{◌≡◌, ◌≤◌, length}
use Rattle.ii_query_grammar.specs.declared.sets.TheConstants.{MAX_SET_VALUES}
use Rattle.ii_query_grammar.specs.Lexemes.{set_rest, set_values}
use Rattle.ii_query_grammar.proofs.sets.after_set.Given as goal

-- the values that are left end where all do
abbrev pub invariant-loop : goal.invariant-loop
invariant-loop l = record { ends : set_rest (set_values l.values.left l.values.size l.values.rest.now) ≡ set_rest (set_values MAX_SET_VALUES l.size l.text); shorter : length l.values.rest.now ≤ length l.text }

abbrev pub decreases-loop : goal.decreases-loop
decreases-loop l = l.values.left
