use Rattle.std.proofs.Common.{◌≡◌, drop, length}
use Rattle.std.specs.List.{list_all}
use Rattle.ii_query_parser.specs.Queries.{has_fields}
use Rattle.ii_query_parser.proofs.query.+has_fields.Given as goal

abbrev pub invariant-have_fields-loop-query : goal.invariant-have_fields-loop-query
invariant-have_fields-loop-query l = list_all (has_fields (length l.schema)) l.queries.items ≡ list_all (has_fields (length l.schema)) (drop l.query-index l.queries.items)
