use Rattle.std.proofs.Common.{◌≡◌, ◌++◌, drop, flat_map, map}
use Rattle.ii_statistics.specs.Statistics.{query_terms}
use Rattle.ii_statistics.proofs.terms.+push_terms.Given as goal

abbrev pub invariant-push_all_terms-loop-query : goal.invariant-push_all_terms-loop-query
invariant-push_all_terms-loop-query l = map (λ t. t.now) l.initial.terms.items ++ flat_map query_terms l.queries.items ≡ map (λ t. t.now) l.terms.items ++ flat_map query_terms (drop l.query-index l.queries.items)
