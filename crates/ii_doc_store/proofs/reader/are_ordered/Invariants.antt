use Rattle.std.proofs.Common.{◌≡◌, drop}
use Rattle.ii_doc_store.specs.StoreReader.{are_in_order}
use Rattle.ii_doc_store.proofs.reader.are_ordered.Given as goal

-- the checkpoints that are left decide
abbrev pub invariant-loop-checkpoint : goal.invariant-loop-checkpoint
invariant-loop-checkpoint l = are_in_order l.doc l.byte l.end (drop l.checkpoint-index l.checkpoints) ≡ are_in_order 0 0 l.end l.checkpoints
