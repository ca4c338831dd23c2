use Rattle.ii_index.proofs.TotalsLemmas.{IsSumming}
use Rattle.ii_index.proofs.totals.sum_of_tokens.Given as goal

abbrev pub invariant-loop-place : goal.invariant-loop-place
invariant-loop-place l = IsSumming l.totals l.field l.place l.sum
