use Rattle.std.proofs.Common.{◌≡◌, ◌+◌, ◌-◌, ◌^◌, ◌≤◌, drop, map, min}
use Rattle.ii_segment_search.specs.Searcher.{total_living}
use Rattle.nequllpa_searching.specs.OpenedNumbers.{open_segment}
use Rattle.nequllpa_searching.proofs.ranking.num_living.Given as goal

abbrev pub invariant-loop-place : goal.invariant-loop-place
invariant-loop-place l = record {
  few : l.total ≤ 2 ^ 64 - 1;
  whole : min (2 ^ 64 - 1) (l.total + total_living (map open_segment (drop l.place l.segments))) ≡ min (2 ^ 64 - 1) (total_living (map open_segment l.segments));
}
