use Rattle.std.proofs.Common.{◌≡◌}
use Rattle.ii_bm25.specs.Lengths.{lengths_from}
use Rattle.ii_bm25.proofs.bm25.Bm25Weight.new.Given as goal

-- the parts of the ids before this one
abbrev pub invariant-loop-id : goal.invariant-loop-id
invariant-loop-id l = l.lengths.items ≡ lengths_from l.id l.total_num_tokens l.total_num_docs
