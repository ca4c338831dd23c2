use Rattle.std.proofs.Common.{◌≡◌}
use Rattle.ii_format_tests.proofs.count_tests.weighed.Given as goal

abbrev pub invariant-loop-doc : goal.invariant-loop-doc
invariant-loop-doc l = l.reader.counts ≡ l.initial.reader.counts
