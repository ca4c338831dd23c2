use Rattle.ii_query_parser.proofs.WordsQueryLemmas.{IsCollecting}
use Rattle.ii_query_parser.proofs.query_parser.any_of.Given as goal

abbrev pub invariant-loop-words : goal.invariant-loop-words
invariant-loop-words l = IsCollecting l.delimiter l.queries.items l.words-iterator.rest.items l.fn.terms.items
