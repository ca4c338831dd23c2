use Rattle.std.proofs.Common.{◌≡◌, None, take}
use Rattle.ii_reader_tests.proofs.written_tests.written.Given as goal

abbrev pub invariant-loop-doc : goal.invariant-loop-doc
invariant-loop-doc l = record { docs_are : l.serializer.docs ≡ take l.doc-index l.docs; plain : l.serializer.norms ≡ None }
