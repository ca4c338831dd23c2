use Rattle.std.proofs.Common.{◌≡◌}
use Rattle.std.specs.List.{range_with_len}
use Rattle.ii_format_tests.proofs.bounds_tests.add_below.Given as goal

abbrev pub invariant-loop-doc : goal.invariant-loop-doc
invariant-loop-doc l = (l.serializer.docs ≡ range_with_len 0 l.doc) × (l.serializer.norms ≡ l.fn.serializer.norms)
