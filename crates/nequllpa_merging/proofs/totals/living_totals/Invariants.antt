use Rattle.std.proofs.Common.{◌≡◌, Ok, map}
use Rattle.std.specs.List.{range_with_len}
use Rattle.ii_reader.specs.OpenIndex.{all_or_first}
use Rattle.nequllpa_merging.proofs.OpenLemmas.{total_in}
use Rattle.nequllpa_merging.proofs.totals.living_totals.Given as goal

abbrev pub invariant-loop-place : goal.invariant-loop-place
invariant-loop-place l = all_or_first (map (total_in l.index l.counts l.alive) (range_with_len 0 l.place)) ≡ Ok l.totals.items
