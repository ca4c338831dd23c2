use Rattle.std.proofs.Common.{◌≡◌, ◌≤◌, ◌++◌, ◌-◌, ℕ, List, true}
use Rattle.ii_base.specs.declared.doc_id.TheConstants.{TERMINATED}
use Rattle.ii_docset.specs.Cursor.{IsSound, doc_at}
use Rattle.ii_docset.specs.Intersection.{has_doc}
use Rattle.ii_block_shares.specs.BlockShares.{AreBounds, EndWithDocs, bound_at, last_end, share_of}
use Rattle.ii_block_shares.specs.declared.block_shares.BlockShare.{BlockShare}
use Rattle.ii_block_shares.proofs.ExactRunLemmas.{HasRuns}
use Rattle.ii_block_shares.proofs.block_shares.BlockShares.of_postings.Given as goal

abbrev pub decreases-loop-doc : goal.decreases-loop-doc
decreases-loop-doc l = TERMINATED - l.doc

-- what is known of all documents if it is of those that are left, whatever runs come
abbrev pub invariant-loop-doc : goal.invariant-loop-doc
invariant-loop-doc l = record {
  doc_is : l.doc ≡ doc_at l.cursor.rest;
  end : l.end ≡ last_end l.blocks.items;
  sound : IsSound l.cursor.rest;
  runs : HasRuns (share_of l.weight l.norms) l.blocks.items l.fn.cursor.rest l.cursor.rest;
  ends : EndWithDocs l.blocks.items l.fn.cursor.rest;
  left : (d : ℕ) → has_doc l.cursor.rest d ≡ true → has_doc l.fn.cursor.rest d ≡ true;
  each : (more : List BlockShare) → AreBounds l.weight l.norms (l.blocks.items ++ more) l.cursor.rest → AreBounds l.weight l.norms (l.blocks.items ++ more) l.fn.cursor.rest;
  past : (d : ℕ) (more : List BlockShare) → l.doc ≤ d → bound_at (l.blocks.items ++ more) d ≡ bound_at more d;
}
