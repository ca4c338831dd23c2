use Rattle.std.proofs.Common.{◌≡◌, ◌==◌, drop, map}
use Rattle.std.specs.List.{list_any}
use Rattle.ii_warmup.specs.QueryTerms.{QueryTermState, term_view}
use Rattle.ii_warmup.proofs.wanted_terms.has_term.Given as goal

abbrev pub invariant-loop-term : goal.invariant-loop-term
invariant-loop-term l = list_any (λ (t : QueryTermState). t.term.field == l.field) (map term_view l.terms) ≡ list_any (λ (t : QueryTermState). t.term.field == l.field) (map term_view (drop l.term-index l.terms))
