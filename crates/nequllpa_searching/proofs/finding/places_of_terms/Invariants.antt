use Rattle.nequllpa_searching.proofs.QueryLemmas.{IsPlacingTerms}
use Rattle.nequllpa_searching.proofs.finding.places_of_terms.Given as goal

abbrev pub invariant-loop-term : goal.invariant-loop-term
invariant-loop-term l = IsPlacingTerms l.index l.docs l.terms l.term-index l.places.items
