use Rattle.std.proofs.Common.{◌≡◌, take}
use Rattle.ii_indexing.specs.OpenDocuments.{AreClosed, with_norms}
use Rattle.ii_indexing.proofs.open_documents.close_documents.Given as goal

abbrev pub invariant-loop-place : goal.invariant-loop-place
invariant-loop-place l = AreClosed (take l.place l.documents) l.initial.norms l.norms × (with_norms l.norms ≡ with_norms l.initial.norms)
