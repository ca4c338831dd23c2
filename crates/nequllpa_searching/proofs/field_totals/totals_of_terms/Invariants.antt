use Rattle.std.proofs.Common.{drop, map}
use Rattle.nequllpa_searching.proofs.TotalsLemmas.{IsTotalling}
use Rattle.nequllpa_searching.proofs.field_totals.totals_of_terms.Given as goal

abbrev pub invariant-loop-place : goal.invariant-loop-place
invariant-loop-place l = IsTotalling l.segments (map (λ t. t.now) l.terms) (drop l.place (map (λ t. t.now) l.terms)) l.totals.items
