use Rattle.std.proofs.Common.{◌≡◌, map}
use Rattle.ii_index.specs.Searching.{totals_view}
use Rattle.ii_index.specs.Statistics.{counts_damage}
use Rattle.ii_index.proofs.TotalsLemmas.{totals_from}
use Rattle.ii_index.proofs.totals.damaged_counts.Given as goal

abbrev pub invariant-loop-place : goal.invariant-loop-place
invariant-loop-place l = counts_damage (totals_from l.totals l.place) ≡ counts_damage (map totals_view l.totals)
