use Rattle.std.proofs.Common.{◌≡◌, ◌++◌, drop, flat_map, map}
use Rattle.nequllpa_searching.specs.Finding.{wanted_terms}
use Rattle.nequllpa_searching.proofs.finding.+push_terms.Given as goal

abbrev pub invariant-push_all_terms-loop-query : goal.invariant-push_all_terms-loop-query
invariant-push_all_terms-loop-query l = map (λ t. t.now) l.initial.terms.items ++ flat_map wanted_terms l.queries.items ≡ map (λ t. t.now) l.terms.items ++ flat_map wanted_terms (drop l.query-index l.queries.items)
