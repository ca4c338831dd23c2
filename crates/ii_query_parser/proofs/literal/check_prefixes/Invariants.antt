use Rattle.ii_query_parser.proofs.TermLemmas.{ArePrefixes}
use Rattle.ii_query_parser.proofs.literal.check_prefixes.Given as goal

abbrev pub invariant-loop-words : goal.invariant-loop-words
invariant-loop-words l = ArePrefixes l.schema l.terms l.words-index
