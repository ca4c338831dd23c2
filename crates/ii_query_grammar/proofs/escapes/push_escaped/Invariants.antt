use Rattle.std.proofs.Common.{◌≡◌, ◌++◌, length, string_bytes}
use Rattle.std.specs.Str.{IsUtf8}
use Rattle.ii_query_grammar.specs.Spelling.{escaped}
use Rattle.ii_query_grammar.proofs.escapes.push_escaped.Given as goal

abbrev pub invariant-loop-before : goal.invariant-loop-before
invariant-loop-before l = record { text : IsUtf8 l.rest; escapes : string_bytes l.initial.query ++ escaped l.stop l.fn.after_backslash l.text ≡ string_bytes l.query ++ escaped l.stop l.after_backslash l.rest }

abbrev pub decreases-loop-before : goal.decreases-loop-before
decreases-loop-before l = length l.rest
