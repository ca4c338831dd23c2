-- Why files can't be written to memory.
use Rattle.std.proofs.Common.{inl, inr, ◌≡◌, ℕ, List, refl, sym, ap, subst, ⊎_elim}
use Rattle.std.specs.Prelude.{◌⊎◌}
use Rattle.ii_io.specs.declared.faults.Fault.{Fault}
use Rattle.ii_io.specs.declared.faults.Fault.TheVariants.{OutOfMemory, Write, SerializerClosed, IndexerFailed, UnsupportedLeaf, DecreasingPosition, Limit, Damaged}
use Rattle.ii_io.specs.Faults.{memory_fault}
use Rattle.ii_base.specs.Schema.{SchemaEntry}
use Rattle.ii_definitions.specs.Tokens.{IndexToken}
use Rattle.ii_indexing.specs.IndexFiles.{IsIndexFault}
use Rattle.ii_indexing.specs.declared.index_writers.IndexWriters.{IndexWriters}
use Rattle.ii_indexing.specs.RamFiles.{IsRamFault, empty_files}

pub memory_or : (f : Fault) → (memory_fault f ≡ f) ⊎ (memory_fault f ≡ OutOfMemory)
memory_or OutOfMemory = inl refl
memory_or Write = inr refl
memory_or SerializerClosed = inl refl
memory_or IndexerFailed = inl refl
memory_or (UnsupportedLeaf kind) = inl refl
memory_or DecreasingPosition = inl refl
memory_or (Limit name) = inl refl
memory_or (Damaged part) = inl refl

memory_limits : (W : Type 0) (entries : List SchemaEntry) (n : ℕ) (ts : List IndexToken) (fault : Fault) → IsIndexFault {W = W} entries n empty_files ts fault → (memory_fault fault ≡ OutOfMemory) ⊎ IsRamFault entries n ts fault
memory_limits W entries n ts fault cause =
    ⊎_elim (λ (memory : fault ≡ OutOfMemory). inl (ap memory_fault memory))
    (λ later. ⊎_elim (λ (write : fault ≡ Write). inl (ap memory_fault write)) (λ last. inr last) later)
    cause

-- why they can't be written
pub fault_in_ram : {W : Type 0} (entries : List SchemaEntry) (n : ℕ) (files : IndexWriters W) (ts : List IndexToken) (fault : Fault) → files ≡ empty_files → IsIndexFault entries n files ts fault
    → (memory_fault fault ≡ OutOfMemory) ⊎ IsRamFault entries n ts (memory_fault fault)
fault_in_ram {W} entries n files ts fault empty cause =
    ⊎_elim inl
    (λ (limit : IsRamFault entries n ts fault).
    ⊎_elim (λ (same : memory_fault fault ≡ fault). inr (subst (IsRamFault entries n ts) (sym same) limit)) inl (memory_or fault))
    (memory_limits W entries n ts fault (subst (λ (f : IndexWriters W). IsIndexFault entries n f ts fault) empty cause))
