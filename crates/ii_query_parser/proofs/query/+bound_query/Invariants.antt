use Rattle.ii_query_parser.proofs.BoundLemmas.{AreBounded}
use Rattle.ii_query_parser.proofs.query.+bound_query.Given as goal

-- the queries before the index are bounded
abbrev pub invariant-bound_each-loop-query : goal.invariant-bound_each-loop-query
invariant-bound_each-loop-query l = AreBounded l.num_docs l.query-index l.queries l.fn.queries
