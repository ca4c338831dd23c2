use Rattle.std.proofs.Common.{◌≡◌, drop}
use Rattle.std.specs.List.{find}
use Rattle.ii_query_parser.specs.QueryTexts.{repeats}
use Rattle.ii_query_parser.proofs.literal.check_repeated.Given as goal

-- none of the phrases before the index has a term twice
abbrev pub invariant-loop-words : goal.invariant-loop-words
invariant-loop-words l = find repeats l.terms ≡ find repeats (drop l.words-index l.terms)
