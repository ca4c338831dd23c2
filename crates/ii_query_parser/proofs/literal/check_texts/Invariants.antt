use Rattle.std.proofs.Common.{◌≡◌, drop}
use Rattle.ii_query_parser.specs.QueryTexts.{without_texts}
use Rattle.ii_query_parser.proofs.literal.check_texts.Given as goal

-- each phrase before the index is of a field with texts
abbrev pub invariant-loop-words : goal.invariant-loop-words
invariant-loop-words l = without_texts l.schema l.terms ≡ without_texts l.schema (drop l.words-index l.terms)
