use Rattle.std.proofs.Common.{◌≡◌, ◌-◌, ◌<◌, ◌≤◌, ◌^◌, ℕ, List, Some, true}
use Rattle.ii_docset.specs.Cursor.{IsSound, doc_at}
use Rattle.ii_docset.specs.Intersection.{has_doc}
use Rattle.ii_block_shares.specs.BlockShares.{AreBounds, bound_at, share_of}
use Rattle.ii_block_shares.specs.declared.block_shares.BlockShare.{BlockShare}
use Rattle.ii_block_shares.proofs.ExactRunLemmas.{TakesFirst}
use Rattle.ii_block_shares.proofs.runs.take_run.Given as goal

abbrev pub decreases-loop-left : goal.decreases-loop-left
decreases-loop-left l = l.left

-- what is known of all documents if it is of those that are left
abbrev pub invariant-loop-left : goal.invariant-loop-left
invariant-loop-left l = record {
  doc_is : l.doc ≡ doc_at l.cursor.rest;
  sound : IsSound l.cursor.rest;
  ahead : doc_at l.fn.cursor.rest < l.end;
  up_to : l.end ≤ l.doc;
  few : l.greatest < 2 ^ 28;
  within : l.left < 128;
  takes : TakesFirst (share_of l.weight l.norms) (128 - l.left) l.greatest l.end l.fn.cursor.rest l.cursor.rest;
  last : has_doc l.fn.cursor.rest (l.end - 1) ≡ true;
  left : (d : ℕ) → has_doc l.cursor.rest d ≡ true → has_doc l.fn.cursor.rest d ≡ true;
  each : (bound : ℕ) (blocks : List BlockShare) → l.greatest ≤ bound → ((d : ℕ) → doc_at l.fn.cursor.rest ≤ d → d < l.end → bound_at blocks d ≡ Some bound) → AreBounds l.weight l.norms blocks l.cursor.rest → AreBounds l.weight l.norms blocks l.fn.cursor.rest;
}
