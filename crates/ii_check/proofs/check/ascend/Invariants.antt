use Rattle.std.proofs.Common.{◌≡◌, ◌&&◌, drop}
use Rattle.ii_base.specs.Entries.{ascend_from}
use Rattle.ii_check.proofs.check.ascend.Given as goal

abbrev pub invariant-loop-doc : goal.invariant-loop-doc
invariant-loop-doc l = ascend_from l.least l.docs ≡ (l.so_far && ascend_from l.next (drop l.doc-index l.docs))
