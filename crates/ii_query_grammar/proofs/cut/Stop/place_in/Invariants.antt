use Rattle.std.proofs.Common.{◌≡◌, ◌+◌, drop}
use Rattle.ii_query_grammar.specs.Lexemes.{place_of}
use Rattle.ii_query_grammar.proofs.cut.Stop.place_in.Given as goal

abbrev pub invariant-loop-place : goal.invariant-loop-place
invariant-loop-place l = place_of l.self l.escaped l.text ≡ l.place + place_of l.self l.after_backslash (drop l.place l.text)
