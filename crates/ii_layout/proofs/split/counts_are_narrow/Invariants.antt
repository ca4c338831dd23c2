use Rattle.std.proofs.Common.{◌≡◌, drop}
use Rattle.std.specs.List.{list_all}
use Rattle.ii_layout.specs.SkipList.{entries_at}
use Rattle.ii_layout.proofs.SplitLemmas.{is_narrow}
use Rattle.ii_layout.proofs.split.counts_are_narrow.Given as goal

abbrev pub invariant-loop-i : goal.invariant-loop-i
invariant-loop-i l =
    list_all is_narrow (entries_at l.skip_info l.blocks l.skip_data) ≡ list_all is_narrow (drop l.i (entries_at l.skip_info l.blocks l.skip_data))
