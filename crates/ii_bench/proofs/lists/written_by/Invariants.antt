use Rattle.std.proofs.Common.{◌≡◌, take}
use Rattle.ii_bench.proofs.lists.written_by.Given as goal

abbrev pub invariant-loop-doc : goal.invariant-loop-doc
invariant-loop-doc l = record { docs_are : l.serializer.docs ≡ take l.doc-index l.docs; norms_are : l.serializer.norms ≡ l.fn.norms }
