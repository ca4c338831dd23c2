use Rattle.std.proofs.Common.{◌≡◌, ◌++◌, drop, flat_map, map}
use Rattle.ii_warmup.specs.QueryTerms.{query_ranges, range_view}
use Rattle.ii_warmup.proofs.terms.+push_ranges.Given as goal

abbrev pub invariant-push_all_ranges-loop-query : goal.invariant-push_all_ranges-loop-query
invariant-push_all_ranges-loop-query l = map range_view l.initial.ranges.items ++ flat_map query_ranges l.queries.items ≡ map range_view l.ranges.items ++ flat_map query_ranges (drop l.query-index l.queries.items)
