use Rattle.std.proofs.Common.{◌≡◌, ◌++◌, length, string_bytes}
use Rattle.std.specs.Str.{IsUtf8}
use Rattle.ii_query_grammar.specs.Lexemes.{unescaped}
use Rattle.ii_query_grammar.proofs.escapes.unescape.Given as goal

abbrev pub invariant-loop-before : goal.invariant-loop-before
invariant-loop-before l = record { text : IsUtf8 l.rest; escapes : unescaped l.text ≡ string_bytes l.plain ++ unescaped l.rest }

abbrev pub decreases-loop-before : goal.decreases-loop-before
decreases-loop-before l = length l.rest
