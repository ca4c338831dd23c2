use Rattle.std.proofs.Common.{◌≡◌, drop}
use Rattle.ii_base.specs.Entries.{ascend_from}
use Rattle.ii_reader_tests.proofs.written_tests.ascend.Given as goal

abbrev pub invariant-loop-doc : goal.invariant-loop-doc
invariant-loop-doc l = ascend_from 0 l.docs ≡ ascend_from l.next (drop l.doc-index l.docs)
