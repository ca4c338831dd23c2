use Rattle.std.proofs.Common.{◌≡◌, ◌+◌, true}
use Rattle.std.specs.List.{list_all, range_with_len}
use Rattle.ii_termdict.specs.Dictionary.{key_of, is_below}
use Rattle.ii_termdict.proofs.key_parts.do_keys_ascend.Given as goal

abbrev pub invariant-loop-i : goal.invariant-loop-i
invariant-loop-i l = list_all (λ i. is_below (key_of l.ends l.body i) (key_of l.ends l.body (i + 1))) (range_with_len 0 l.i) ≡ true
