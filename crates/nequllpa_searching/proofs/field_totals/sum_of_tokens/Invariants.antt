use Rattle.std.proofs.Common.{drop}
use Rattle.nequllpa_searching.proofs.TotalsLemmas.{IsAddingTokens}
use Rattle.nequllpa_searching.proofs.field_totals.sum_of_tokens.Given as goal

abbrev pub invariant-loop-place : goal.invariant-loop-place
invariant-loop-place l = IsAddingTokens l.segments l.field (drop l.place l.segments) l.sum
