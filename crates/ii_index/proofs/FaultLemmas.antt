-- Why documents aren't made a segment.
use Rattle.std.proofs.Common.{◌≡◌, ℕ, List, Option, None, Some, Result, Err, IfErr, inl, inr, refl}
use Rattle.std.specs.Prelude.{◌⊎◌, IfSome}
use Rattle.ii_base.specs.Words.{Word}
use Rattle.ii_io.specs.declared.faults.Fault.{Fault}
use Rattle.ii_io.specs.declared.faults.Fault.TheVariants.{OutOfMemory}
use Rattle.nequllpa_indexing.specs.Counted.{IsSegmentFault}
use Rattle.nequllpa_indexing.specs.Documents.{DocumentsState}
use Rattle.nequllpa_indexing.specs.FieldTokens.{tokens_by}
use Rattle.nequllpa_indexing.specs.StoredLines.{IsLinesFault}
use Rattle.ii_index.specs.Faults.{IsBuildFault}

-- the fault is the first one of the calls, or of what is written
pub build_fault : {X : Type 0} (first : Option Fault) (words : ℕ → List ℕ → List Word) (d : DocumentsState) (e : Fault) (r : Result X Fault) → r ≡ Err e
    → IfSome first (λ fault. (r ≡ Err fault) ⊎ (r ≡ Err OutOfMemory)) → (first ≡ None → IfErr r (λ f. IsSegmentFault d.schema d.num_docs (tokens_by words d.calls) f ⊎ IsLinesFault d.lines f)) → IsBuildFault first words d e
build_fault (Some fault) words d e r is (inl same) written = inl (cc)
build_fault (Some fault) words d e r is (inr memory) written = inr (cc)
build_fault {X} None words d e r is told written = subst_err r is (written refl)
  where
    subst_err : (s : Result X Fault) → s ≡ Err e → IfErr s (λ f. IsSegmentFault d.schema d.num_docs (tokens_by words d.calls) f ⊎ IsLinesFault d.lines f) → IsSegmentFault d.schema d.num_docs (tokens_by words d.calls) e ⊎ IsLinesFault d.lines e
    subst_err s same holds = rw same at holds
