use Rattle.std.proofs.Common.{map}
use Rattle.ii_warmup.specs.QueryTerms.{range_view, requested_of, term_view}
use Rattle.ii_warmup.proofs.WantedLemmas.{IsGathering}
use Rattle.ii_warmup.proofs.wanted_terms.wanted_terms.Given as goal

abbrev pub invariant-loop : goal.invariant-loop
invariant-loop l = IsGathering (requested_of (map term_view l.terms) (map range_view l.ranges) l.field) l.dictionary l.counter l.stream l.wanted.items
