use Rattle.std.proofs.Common.{◌≡◌, true}
use Rattle.std.specs.List.{list_all, range_with_len}
use Rattle.ii_termstore.specs.TermStore.{has_block}
use Rattle.ii_termstore.proofs.term_info_store.store_view.are_blocks_valid.Given as goal

abbrev pub invariant-loop-b : goal.invariant-loop-b
invariant-loop-b l = list_all (has_block l.metas l.bits l.terms) (range_with_len 0 l.b) ≡ true
