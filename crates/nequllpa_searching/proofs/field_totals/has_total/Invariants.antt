use Rattle.std.proofs.Common.{◌≡◌, drop}
use Rattle.nequllpa_searching.specs.OpenedNumbers.{has_total}
use Rattle.nequllpa_searching.proofs.field_totals.has_total.Given as goal

abbrev pub invariant-loop-place : goal.invariant-loop-place
invariant-loop-place l = has_total (drop l.place l.totals) l.field ≡ has_total l.totals l.field
