use Rattle.std.proofs.Common.{ℕ, arith}
use Rattle.std.proofs.lemmas.List.{get_or-replicate}
use Rattle.ii_format_tests.proofs.packed_tests.threes_are_read_back.Goals as goal

pub compress_block_unsorted-requires-clause-positive : goal.compress_block_unsorted-requires-clause-positive
compress_block_unsorted-requires-clause-positive c = λ k h. omega (arith, get_or-replicate {A = ℕ} 128 k 3 0 h)
