use Rattle.std.proofs.Common.{◌≡◌, true}
use Rattle.std.specs.List.{list_all, range_with_len}
use Rattle.ii_termstore.specs.TermInfos.{is_sound}
use Rattle.ii_termstore.specs.TermStore.{block_info}
use Rattle.ii_termstore.proofs.term_info_store.block.is_block.Given as goal

abbrev pub invariant-loop-k : goal.invariant-loop-k
invariant-loop-k l = list_all (λ k. is_sound (block_info l.meta l.bits k)) (range_with_len 0 l.k) ≡ true
