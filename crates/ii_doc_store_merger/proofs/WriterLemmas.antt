-- What calls that store documents write, and how they fail.
use Rattle.std.proofs.Common.{◌≡◌, ◌+◌, ◌<◌, ◌≤◌, ◌⊎◌, ℕ, arith, Bool, true, false, List, Result, Ok, Err, inl, inr, refl, sym, ap, subst, ◌∙◌, ⊎_elim}
use Rattle.std.proofs.lemmas.Bool.{cases_lt}
use Rattle.std.specs.Prelude.{IsErrOf, IsTrue, OnErr}
use Rattle.ii_io.specs.declared.faults.Fault.{Fault}
use Rattle.ii_io.specs.declared.faults.Fault.TheVariants as faults
use Rattle.ii_io.specs.Faults.{memory_fault}
use Rattle.ii_io.specs.CountingWriter.{CountingWriterState, Grows, WritesInMemory}
use Rattle.ii_io.proofs.WriteSteps.{Grows-trans, grows_not, prefix_grows, writes_grows}
use Rattle.ii_doc_store.specs.declared.faults.StoreFileFault.{StoreFileFault}
use Rattle.ii_doc_store.specs.declared.faults.StoreFileFault.TheVariants as blocks
use Rattle.ii_doc_store.specs.declared.faults.StoreWriteFault.{StoreWriteFault}
use Rattle.ii_doc_store.specs.declared.faults.StoreWriteFault.TheVariants as stores
use Rattle.ii_doc_store.specs.StoreWriter.{OfOutput, StoreWriterState}
use Rattle.ii_doc_store_merger.specs.declared.faults.StoreMergeFault.{StoreMergeFault}
use Rattle.ii_doc_store_merger.specs.declared.faults.StoreMergeFault.TheVariants.{Damaged, DocumentLen, NumDocs, Output, Read}
use Rattle.ii_doc_store_merger.specs.StoreSources.{IsInputFault, IsOutputFault, IsStoreMergeFault, OrWriterFailed, StoreSourceState, StoresMore, block_fault, memory_merge_fault}

is_memory : (fault : Fault) → IsErrOf {T = Unit {0}} (Err fault) faults.OutOfMemory ⊎ ¬ IsErrOf {T = Unit {0}} (Err fault) faults.OutOfMemory
is_memory faults.OutOfMemory = inl refl
is_memory faults.Write = inr (λ e. absurd (cc))
is_memory faults.SerializerClosed = inr (λ e. absurd (cc))
is_memory faults.IndexerFailed = inr (λ e. absurd (cc))
is_memory (faults.UnsupportedLeaf kind) = inr (λ e. absurd (cc))
is_memory faults.DecreasingPosition = inr (λ e. absurd (cc))
is_memory (faults.Limit name) = inr (λ e. absurd (cc))
is_memory (faults.Damaged part) = inr (λ e. absurd (cc))

-- ---- a call of an open store

module _ (a b : CountingWriterState) (bytes : List ℕ) where
  err_grows : (fault : Fault) → WritesInMemory false a b bytes (Err fault) → Grows a b
  err_grows fault h = ⊎_elim (λ memory. prefix_grows a b bytes (h.memory memory).0) (λ other. writes_grows a b bytes (Err fault) (h.writes refl other)) (is_memory fault)

  open_grows : (result : Result (Unit {0}) Fault) → WritesInMemory false a b bytes result → Grows a b
  open_grows (Ok u) h = writes_grows a b bytes (Ok u) (h.writes refl (λ e. absurd (cc)))
  open_grows (Err fault) h = err_grows fault h

  -- what a call appends, also after an error
  pub call_grows : (is_closed : Bool) (result : Result (Unit {0}) Fault) → WritesInMemory is_closed a b bytes result → Grows a b
  call_grows false result h = open_grows result h
  call_grows true result h = grows_not a b (h.refused refl).1

  -- why a call fails
  pub call_fault : (fault : Fault) → WritesInMemory false a b bytes (Err fault) → (fault ≡ faults.Write) ⊎ IsOutputFault fault
  call_fault fault h = ⊎_elim (λ memory. inr (inl (inside memory))) (λ other. ⊎_elim (λ write. inl write) (λ limit. inr (inr limit)) (h.writes refl other).only) (is_memory fault)
    where
      inside : IsErrOf {T = Unit {0}} (Err fault) faults.OutOfMemory → fault ≡ faults.OutOfMemory
      inside e = cc

  -- a failed call is counted
  pub call_counted : (fault : Fault) → WritesInMemory false a b bytes (Err fault) → fault ≡ faults.Write → b.failed_calls ≡ a.failed_calls + 1
  call_counted fault h write = (h.writes refl (λ e. absurd (cc))).by_one (cc)

  -- no other fault is counted
  pub call_uncounted : (fault : Fault) → WritesInMemory false a b bytes (Err fault) → ¬ (fault ≡ faults.Write) → b.failed_calls ≡ a.failed_calls
  call_uncounted fault h unfailed = ⊎_elim (λ memory. (h.memory memory).1) (λ other. let writes = h.writes refl other in no_more a.failed_calls b.failed_calls writes.prefix.failed_calls (λ more. unfailed (inside (writes.write.1 more)))) (is_memory fault)
    where
      no_more : (m n : ℕ) → m ≤ n → ¬ (m < n) → n ≡ m
      no_more m n most least = ⊎_elim (λ less. absurd (least less)) (λ same. omega (arith, same, most)) (cases_lt m n)

      inside : IsErrOf {T = Unit {0}} (Err fault) faults.Write → fault ≡ faults.Write
      inside e = cc

-- a fault of the writer, as a fault of the merge
pub output_fault : (P : StoreMergeFault → Type 0) (fault : Fault) → (IsOutputFault fault → P (Output fault)) → (fault ≡ faults.Write) ⊎ IsOutputFault fault → OrWriterFailed P (Output fault)
output_fault P fault known cause = ⊎_elim (λ write. inl (ap Output write)) (λ other. inr (known other)) cause

-- ---- calls that store documents

write_is : (fault : Fault) → IsErrOf {T = Unit {0}} (Err (Output fault)) (Output faults.Write) → fault ≡ faults.Write
write_is fault e = cc

module _ (old new : StoreWriterState) where
  stores_document : (bytes : List ℕ) → WritesInMemory false old.writer new.writer bytes (Ok tt) → StoresMore old new (Ok tt)
  stores_document bytes h = let wrote = h.writes refl (λ e. absurd (cc)) in record {
    grows = open_grows old.writer new.writer bytes (Ok tt) h;
    by_one = λ e. absurd (cc);
    no_other = λ other. wrote.ok.failed_calls;
    closed = tt;
  }

  stores_part : (bytes : List ℕ) (fault : Fault) → WritesInMemory false old.writer new.writer bytes (Err fault) → IsTrue new.closed → StoresMore old new (Err (Output fault))
  stores_part bytes fault h closed = record {
    grows = err_grows old.writer new.writer bytes fault h;
    by_one = λ e. call_counted old.writer new.writer bytes fault h (write_is fault e);
    no_other = λ other. call_uncounted old.writer new.writer bytes fault h (λ write. other (ap (λ (f : Fault). Err (Output f)) write));
    closed = λ sound. closed;
  }

  pub stores_nothing : (fault : StoreMergeFault) → new.writer ≡ old.writer → ¬ IsErrOf {T = Unit {0}} (Err fault) (Output faults.Write) → (¬ IsInputFault fault → IsTrue new.closed) → StoresMore old new (Err fault)
  stores_nothing fault same other closes = record {
    grows = grows_not old.writer new.writer same;
    by_one = λ e. absurd (other e);
    no_other = λ _. ap (λ (w : CountingWriterState). w.failed_calls) same;
    closed = closes;
  }

-- how a call ends that can't read a block
pub reads_nothing : (w : StoreWriterState) (place : ℕ) (e : StoreFileFault) → StoresMore w w (Err (block_fault place e))
reads_nothing w place (blocks.Damaged damage) = stores_nothing w w (Damaged place damage) refl (λ e. absurd (cc)) (λ sound. absurd (sound tt))
reads_nothing w place (blocks.Read fault) = stores_nothing w w (Read place fault) refl (λ e. absurd (cc)) (λ sound. absurd (sound tt))

-- how a call ends that stores a document
module _ (old new : StoreWriterState) (bytes : List ℕ) (stored : Result (Unit {0}) StoreWriteFault) (opened : old.closed ≡ false) (written : OfOutput stored (WritesInMemory old.closed old.writer new.writer bytes)) where
  written_as : (result : Result (Unit {0}) StoreWriteFault) → stored ≡ result → OfOutput result (WritesInMemory false old.writer new.writer bytes)
  written_as result is =
      subst (λ (r : Result (Unit {0}) StoreWriteFault). OfOutput r (WritesInMemory false old.writer new.writer bytes)) is (subst (λ (closed : Bool). OfOutput stored (WritesInMemory closed old.writer new.writer bytes)) opened written)

  pub stored_document : stored ≡ Ok tt → StoresMore old new (Ok tt)
  stored_document is = stores_document old new bytes (written_as (Ok tt) is)

  pub stored_part : (fault : Fault) → stored ≡ Err (stores.Output fault) → OnErr stored (IsTrue new.closed) → StoresMore old new (Err (Output fault))
  stored_part fault is closed = stores_part old new bytes fault (written_as (Err (stores.Output fault)) is) (subst (λ (r : Result (Unit {0}) StoreWriteFault). OnErr r (IsTrue new.closed)) is closed)

  pub stored_fault : (P : StoreMergeFault → Type 0) (fault : Fault) → stored ≡ Err (stores.Output fault) → (IsOutputFault fault → P (Output fault)) → OrWriterFailed P (Output fault)
  stored_fault P fault is known = output_fault P fault known (call_fault old.writer new.writer bytes fault (written_as (Err (stores.Output fault)) is))

-- one more call
pub StoresMore-trans : (old now new : StoreWriterState) (result : Result (Unit {0}) StoreMergeFault) → StoresMore old now (Ok tt) → StoresMore now new result → StoresMore old new result
StoresMore-trans old now new result h k =
    let same = h.no_other (λ e. absurd (cc)) in
    record {
      grows = Grows-trans old.writer now.writer new.writer h.grows k.grows;
      by_one = λ e. k.by_one e ∙ ap (λ n. n + 1) same;
      no_other = λ other. k.no_other other ∙ same;
      closed = k.closed;
    }

-- ---- the end of a store

module _ (initial final : CountingWriterState) (old new : StoreWriterState) (bytes : List ℕ) (ended : Result (Unit {0}) Fault) (begun : old.writer ≡ initial) (end : WritesInMemory new.closed new.writer final bytes ended) where
  pub all_grows : (result : Result (Unit {0}) StoreMergeFault) → StoresMore old new result → Grows initial final
  all_grows result more = subst (λ (w : CountingWriterState). Grows w final) begun (Grows-trans old.writer new.writer final more.grows (call_grows new.writer final bytes new.closed ended end))

  -- nothing is written after a fault that closed the store
  refused_after : (fault : StoreMergeFault) → StoresMore old new (Err fault) → ¬ IsInputFault fault → final.failed_calls ≡ new.writer.failed_calls
  refused_after fault more sound = ap (λ (w : CountingWriterState). w.failed_calls) (end.refused (more.closed sound)).1

  pub counted_before : (fault : StoreMergeFault) → StoresMore old new (Err fault) → IsErrOf {T = Unit {0}} (Err fault) (Output faults.Write) → final.failed_calls ≡ initial.failed_calls + 1
  counted_before fault more e = refused_after fault more (λ damage. subst IsInputFault (inside e) damage) ∙ more.by_one e ∙ ap (λ (w : CountingWriterState). w.failed_calls + 1) begun
    where
      inside : IsErrOf {T = Unit {0}} (Err fault) (Output faults.Write) → fault ≡ Output faults.Write
      inside e = cc

  pub uncounted_before : (fault : StoreMergeFault) → StoresMore old new (Err fault) → ¬ IsErrOf {T = Unit {0}} (Err fault) (Output faults.Write) → ¬ IsInputFault fault → final.failed_calls ≡ initial.failed_calls
  uncounted_before fault more other sound = refused_after fault more sound ∙ more.no_other other ∙ ap (λ (w : CountingWriterState). w.failed_calls) begun

-- the call that ends the store fails
module _ (initial final : CountingWriterState) (old new : StoreWriterState) (bytes : List ℕ) (fault : Fault) (begun : old.writer ≡ initial) (more : StoresMore old new (Ok tt)) (end : WritesInMemory false new.writer final bytes (Err fault)) where
  before : new.writer.failed_calls ≡ initial.failed_calls
  before = more.no_other (λ e. absurd (cc)) ∙ ap (λ (w : CountingWriterState). w.failed_calls) begun

  pub counted_at_end : IsErrOf {T = Unit {0}} (Err (Output fault)) (Output faults.Write) → final.failed_calls ≡ initial.failed_calls + 1
  counted_at_end e = call_counted new.writer final bytes fault end (write_is fault e) ∙ ap (λ n. n + 1) before

  pub uncounted_at_end : ¬ IsErrOf {T = Unit {0}} (Err (Output fault)) (Output faults.Write) → final.failed_calls ≡ initial.failed_calls
  uncounted_at_end other = call_uncounted new.writer final bytes fault end (λ write. other (ap (λ (f : Fault). Err (Output f)) write)) ∙ before

-- the call that ends the store succeeds
pub ended_uncounted : (initial final : CountingWriterState) (old new : StoreWriterState) (bytes : List ℕ) → old.writer ≡ initial → StoresMore old new (Ok tt) → WritesInMemory false new.writer final bytes (Ok tt) → final.failed_calls ≡ initial.failed_calls
ended_uncounted initial final old new bytes begun more end = (end.writes refl (λ e. absurd (cc))).ok.failed_calls ∙ more.no_other (λ e. absurd (cc)) ∙ ap (λ (w : CountingWriterState). w.failed_calls) begun

-- ---- a writer to memory

output_same : (fault : Fault) → IsOutputFault fault → memory_fault fault ≡ fault
output_same fault cause = ⊎_elim (λ memory. rw memory refl) (λ limit. rw limit refl) cause

-- why stores aren't merged in memory
pub fault_in_memory : (ss : List StoreSourceState) (fault : StoreMergeFault) → OrWriterFailed (IsStoreMergeFault ss) fault → IsStoreMergeFault ss (memory_merge_fault fault)
fault_in_memory ss (Output fault) cause = ⊎_elim (λ write. rw (inside write) (inl refl)) (λ known. subst IsOutputFault (sym (output_same fault known)) known) cause
  where
    inside : Output fault ≡ Output faults.Write → fault ≡ faults.Write
    inside e = cc
fault_in_memory ss (Read place fault) cause = ⊎_elim (λ write. absurd (cc)) (λ known. known) cause
fault_in_memory ss (Damaged place damage) cause = ⊎_elim (λ write. absurd (cc)) (λ known. known) cause
fault_in_memory ss (DocumentLen place) cause = ⊎_elim (λ write. absurd (cc)) (λ known. known) cause
fault_in_memory ss NumDocs cause = ⊎_elim (λ write. absurd (cc)) (λ known. known) cause
