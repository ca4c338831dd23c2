use Rattle.std.proofs.Common.{◌≡◌, ◌==◌, ◌&&◌, bytes_eq, drop, map}
use Rattle.std.specs.List.{list_any}
use Rattle.ii_warmup.specs.QueryTerms.{QueryTermState, serves, term_view}
use Rattle.ii_warmup.proofs.wanted_terms.is_term.Given as goal

abbrev pub invariant-loop-term : goal.invariant-loop-term
invariant-loop-term l =
    list_any (λ (t : QueryTermState). serves l.option t.option && (t.term.field == l.field) && bytes_eq t.term.value l.key) (map term_view l.terms)
    ≡ list_any (λ (t : QueryTermState). serves l.option t.option && (t.term.field == l.field) && bytes_eq t.term.value l.key) (map term_view (drop l.term-index l.terms))
