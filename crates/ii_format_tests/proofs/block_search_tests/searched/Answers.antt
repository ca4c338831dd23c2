use Rattle.std.proofs.Common.{true}
use Rattle.std.proofs.lemmas.List.Sorted.{non_decreasing_from_is_sorted}
use Rattle.ii_format_tests.proofs.block_search_tests.searched.Goals as goal

pub branchless_binary_search-requires-clause-sorted : goal.branchless_binary_search-requires-clause-sorted
branchless_binary_search-requires-clause-sorted c = non_decreasing_from_is_sorted c.args.arr.now true c.if-not-is_sorted.ensures.cases
