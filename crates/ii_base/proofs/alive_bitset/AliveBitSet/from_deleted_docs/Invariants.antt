use Rattle.std.proofs.Common.{◌≡◌, take}
use Rattle.ii_base.specs.AliveBitSet.{alive_but}
use Rattle.ii_base.proofs.alive_bitset.AliveBitSet.from_deleted_docs.Given as goal

abbrev pub invariant-loop-doc : goal.invariant-loop-doc
invariant-loop-doc l = l.flags.items ≡ alive_but (take l.doc-index l.docs) l.num_docs
