use Rattle.std.proofs.Common.{◌≡◌, drop}
use Rattle.std.specs.List.{list_all}
use Rattle.ii_query_parser.specs.Queries.{keeps_positions}
use Rattle.ii_query_parser.proofs.query.+keeps_positions.Given as goal

abbrev pub invariant-keep_positions-loop-query : goal.invariant-keep_positions-loop-query
invariant-keep_positions-loop-query l = list_all (keeps_positions l.schema) l.queries.items ≡ list_all (keeps_positions l.schema) (drop l.query-index l.queries.items)
