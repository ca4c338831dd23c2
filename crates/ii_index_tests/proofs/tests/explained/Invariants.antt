use Rattle.std.proofs.Common.{◌≡◌, true}
use Rattle.ii_query_parser.specs.Queries.{has_fields}
use Rattle.ii_index_tests.proofs.tests.explained.Given as goal

abbrev pub invariant-loop-score : goal.invariant-loop-score
invariant-loop-score l = has_fields l.searcher.num_fields l.query ≡ true
