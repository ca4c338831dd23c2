use Rattle.std.proofs.Common.{◌≡◌, true, nat_le}
use Rattle.std.specs.List.{list_all, range_with_len}
use Rattle.ii_termdict.specs.Dictionary.{start_of, end_of}
use Rattle.ii_termdict.proofs.key_parts.do_ends_rise.Given as goal

abbrev pub invariant-loop-i : goal.invariant-loop-i
invariant-loop-i l = list_all (λ i. nat_le (start_of l.ends i) (end_of l.ends i)) (range_with_len 0 l.i) ≡ true
