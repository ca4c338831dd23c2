-- The living documents of a store, read one after the other.
use Rattle.std.proofs.Common.{◌≡◌, ℕ, suc, ◌+◌, ◌-◌, ◌<◌, true, false, List, [], ◌∷◌, ◌++◌, append_assoc, append-nil, filter, length, length-append, map, Result, Ok, Err, refl, sym, ap, subst, ◌∙◌, arith, inl, inr, ⊎_elim}
use Rattle.std.specs.List.{range_with_len}
use Rattle.std.proofs.lemmas.List.{take_all}
use Rattle.ii_io.specs.CountingWriter.{CountingWriterState}
use Rattle.ii_alive.specs.Alive.{num_living, rank}
use Rattle.ii_alive.proofs.RankLemmas.{rank_below}
use Rattle.ii_alive.proofs.StateLemmas.{rank_next}
use Rattle.ii_block_file.specs.declared.faults.ReadFault.{ReadFault}
use Rattle.ii_block_file.specs.declared.faults.ReadFault.TheVariants.{OutOfMemory}
use Rattle.ii_doc_store.specs.declared.faults.StoreDamage.{StoreDamage}
use Rattle.ii_doc_store.specs.declared.faults.StoreFileFault.{StoreFileFault}
use Rattle.ii_doc_store.specs.declared.faults.StoreFileFault.TheVariants as blocks
use Rattle.ii_doc_store.specs.StoreReader.{document_of}
use Rattle.ii_doc_store.specs.StoreWriter.{AddsDocument, HasStored, StoreWriterState}
use Rattle.ii_segments.specs.Segments.{is_living}
use Rattle.ii_doc_store_merger.specs.declared.faults.StoreMergeFault.{StoreMergeFault}
use Rattle.ii_doc_store_merger.specs.declared.faults.StoreMergeFault.TheVariants.{Damaged, DocumentLen, NumDocs, Output, Read}
use Rattle.ii_doc_store_merger.specs.StoreSources.{IsDocumentFault, IsSourceFault, OrWriterFailed, StoreSourceState, StoresDocuments, StoresLiving, all_read, block_fault, documents_of_source, with_first}

-- documents before others that may not be read
abbrev pub after : List (List ℕ) → Result (List (List ℕ)) StoreDamage → Result (List (List ℕ)) StoreDamage
after done (Ok documents) = Ok (done ++ documents)
after done (Err damage) = Err damage

after_first : (done : List (List ℕ)) (d : List ℕ) (rest : Result (List (List ℕ)) StoreDamage) → after (done ++ d ∷ []) rest ≡ after done (with_first (Ok d) rest)
after_first done d (Ok ds) = ap (λ (xs : List (List ℕ)). Ok xs) (append_assoc done (d ∷ []) ds)
after_first done d (Err e) = refl

after_none : (rest : Result (List (List ℕ)) StoreDamage) → after [] rest ≡ rest
after_none (Ok ds) = refl
after_none (Err e) = refl

-- the documents from a number on
abbrev pub documents_from : StoreSourceState → ℕ → Result (List (List ℕ)) StoreDamage
documents_from s doc = all_read (map (document_of s.store.bytes s.store.checkpoints) (filter (is_living s.alive) (range_with_len doc (length s.alive - doc))))

-- The living documents before a number were stored.
pub record HasStoredTo (s : StoreSourceState) (doc : ℕ) (old new : StoreWriterState) : Type 0 where
  pub documents : List (List ℕ)
  pub left : after documents (documents_from s doc) ≡ documents_of_source s
  pub count : length documents ≡ rank s.alive doc
  pub stored : StoresDocuments documents old new
  pub is_open : new.closed ≡ false

pub begins : (s : StoreSourceState) (w : StoreWriterState) → w.closed ≡ false → HasStoredTo s 0 w w
begins s w opened = record {
  documents = [];
  left = after_none (documents_from s 0) ∙ (let n : length s.alive - 0 ≡ length s.alive = omega arith in rw n refl);
  count = refl;
  stored = λ initial before stored. subst (HasStored initial w) (sym (append-nil before)) stored;
  is_open = opened;
}

module _ (s : StoreSourceState) (doc : ℕ) (low : doc < length s.alive) where
  abbrev later : List ℕ
  later = range_with_len (doc + 1) (length s.alive - (doc + 1))

  from_here : documents_from s doc ≡ all_read (map (document_of s.store.bytes s.store.checkpoints) (filter (is_living s.alive) (doc ∷ later)))
  from_here = let left : length s.alive - doc ≡ suc (length s.alive - (doc + 1)) = omega (arith, low) in rw left refl

  from_living : is_living s.alive doc ≡ true → documents_from s doc ≡ with_first (document_of s.store.bytes s.store.checkpoints doc) (documents_from s (doc + 1))
  from_living living = rw living at from_here

  from_dead : is_living s.alive doc ≡ false → documents_from s doc ≡ documents_from s (doc + 1)
  from_dead dead = rw dead at from_here

  pub next_living : (old now new : StoreWriterState) (d : List ℕ) → is_living s.alive doc ≡ true → document_of s.store.bytes s.store.checkpoints doc ≡ Ok d → AddsDocument now new d → new.closed ≡ false → HasStoredTo s doc old now → HasStoredTo s (doc + 1) old new
  next_living old now new d living found adds opened h = record {
    documents = h.documents ++ d ∷ [];
    left = after_first h.documents d (documents_from s (doc + 1)) ∙ ap (λ (r : Result (List ℕ) StoreDamage). after h.documents (with_first r (documents_from s (doc + 1)))) (sym found) ∙ ap (after h.documents) (sym (from_living living)) ∙ h.left;
    count = let more = length-append h.documents (d ∷ []) in let is = h.count in let next = rw living at (rank_next s.alive doc low) in omega (arith, more, is, next);
    stored = λ initial before stored. subst (HasStored initial new) (append_assoc before h.documents (d ∷ [])) (adds initial (before ++ h.documents) (h.stored initial before stored));
    is_open = opened;
  }

  pub next_dead : (old now : StoreWriterState) → is_living s.alive doc ≡ false → HasStoredTo s doc old now → HasStoredTo s (doc + 1) old now
  next_dead old now dead h = record {
    documents = h.documents;
    left = ap (after h.documents) (sym (from_dead dead)) ∙ h.left;
    count = let is = h.count in let next = rw dead at (rank_next s.alive doc low) in omega (arith, is, next);
    stored = h.stored;
    is_open = h.is_open;
  }

  -- a document that can't be read is the first one
  pub first_damage : (old now : StoreWriterState) (damage : StoreDamage) → is_living s.alive doc ≡ true → document_of s.store.bytes s.store.checkpoints doc ≡ Err damage → HasStoredTo s doc old now → documents_of_source s ≡ Err damage
  first_damage old now damage living found h = sym h.left ∙ ap (after h.documents) (from_living living ∙ ap (λ (r : Result (List ℕ) StoreDamage). with_first r (documents_from s (doc + 1))) found)

  document_fault : (initial : CountingWriterState) (before : List (List ℕ)) (old now : StoreWriterState) (place : ℕ) (fault : StoreMergeFault) → is_living s.alive doc ≡ true → HasStored initial old before → HasStoredTo s doc old now
      → IsDocumentFault now.num_docs place (document_of s.store.bytes s.store.checkpoints doc) fault → IsSourceFault (length before) place s fault
  document_fault initial before old now place (Output fault) living stored h cause = cause
  document_fault initial before old now place (Read p fault) living stored h cause = absurd cause
  document_fault initial before old now place (Damaged p damage) living stored h cause = (cause.0, first_damage old now damage living cause.1 h)
  document_fault initial before old now place (DocumentLen p) living stored h cause = (cause.0, record { doc = doc; document = cause.1; living = living; found = cause.2; long = cause.3 })
  document_fault initial before old now place NumDocs living stored h cause =
      let many = (h.stored initial before stored).num_docs in
      let more = length-append before h.documents in
      let is = h.count in
      let below = rank_below s.alive doc living in
      omega (arith, many, more, is, below, cause)

  -- why it can't be stored through a writer
  pub document_fault_or : (initial : CountingWriterState) (before : List (List ℕ)) (old now : StoreWriterState) (place : ℕ) (fault : StoreMergeFault) → is_living s.alive doc ≡ true → HasStored initial old before → HasStoredTo s doc old now
      → OrWriterFailed (IsDocumentFault now.num_docs place (document_of s.store.bytes s.store.checkpoints doc)) fault → OrWriterFailed (IsSourceFault (length before) place s) fault
  document_fault_or initial before old now place fault living stored h cause = ⊎_elim (λ write. inl write) (λ known. inr (document_fault initial before old now place fault living stored h known)) cause

  -- why its block isn't read
  pub block_source_fault : (old now : StoreWriterState) (count place : ℕ) (e : StoreFileFault) → is_living s.alive doc ≡ true → HasStoredTo s doc old now
      → ((damage : StoreDamage) → e ≡ blocks.Damaged damage → document_of s.store.bytes s.store.checkpoints doc ≡ Err damage) → ((fault : ReadFault) → e ≡ blocks.Read fault → fault ≡ OutOfMemory) → IsSourceFault count place s (block_fault place e)
  block_source_fault old now count place (blocks.Damaged damage) living h damaged memory = (refl, first_damage old now damage living (damaged damage refl) h)
  block_source_fault old now count place (blocks.Read fault) living h damaged memory = (refl, memory fault refl)

pub all_stored : (s : StoreSourceState) (old new : StoreWriterState) → HasStoredTo s (length s.alive) old new → StoresLiving s old new
all_stored s old new h =
    let none : length s.alive - length s.alive ≡ 0 = omega arith in
    let end : documents_from s (length s.alive) ≡ Ok [] = rw none refl in
    record {
      documents = h.documents;
      read = sym h.left ∙ ap (after h.documents) end ∙ ap (λ (xs : List (List ℕ)). Ok xs) (append-nil h.documents);
      count = h.count ∙ ap num_living (take_all (length s.alive) s.alive (omega arith));
      stored = h.stored;
    }
