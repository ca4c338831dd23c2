use Rattle.std.proofs.Common.{◌≡◌, drop}
use Rattle.ii_base.specs.Entries.{ascend_from}
use Rattle.ii_bench.proofs.lists.ascend.Given as goal

abbrev pub invariant-loop-doc : goal.invariant-loop-doc
invariant-loop-doc l = ascend_from 0 l.docs ≡ ascend_from l.next (drop l.doc-index l.docs)
