use Rattle.std.proofs.Common.{◌/◌, ◌^◌}
use Rattle.ii_codes.proofs.SearchLemmas.{IsSearching}
use Rattle.ii_codes.proofs.block_search.branchless_binary_search.Given as goal

abbrev pub invariant-loop-step : goal.invariant-loop-step
invariant-loop-step l = IsSearching l.target l.arr l.start (128 / 2 ^ l.step)
