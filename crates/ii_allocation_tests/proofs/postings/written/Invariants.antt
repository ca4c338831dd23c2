use Rattle.std.proofs.Common.{◌≡◌, None}
use Rattle.ii_allocation_tests.proofs.EvenDocuments.{evens}
use Rattle.ii_allocation_tests.proofs.postings.written.Given as goal

abbrev pub invariant-loop-i : goal.invariant-loop-i
invariant-loop-i l = record { docs_are : l.serializer.docs ≡ evens 0 l.i; plain : l.serializer.norms ≡ None }
