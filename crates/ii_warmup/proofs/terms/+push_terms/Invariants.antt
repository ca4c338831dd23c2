use Rattle.std.proofs.Common.{◌≡◌, ◌++◌, drop, flat_map, map}
use Rattle.ii_warmup.specs.QueryTerms.{requested_terms, term_view}
use Rattle.ii_warmup.proofs.terms.+push_terms.Given as goal

abbrev pub invariant-push_all_terms-loop-query : goal.invariant-push_all_terms-loop-query
invariant-push_all_terms-loop-query l = map term_view l.initial.terms.items ++ flat_map requested_terms l.queries.items ≡ map term_view l.terms.items ++ flat_map requested_terms (drop l.query-index l.queries.items)
