-- Stores of documents that are merged: the living documents of each, one store after the other.
use Rattle.std.specs.Prelude.{◌≡◌, ℕ, ◌+◌, ◌-◌, ◌^◌, ◌≤◌, ◌⊎◌, ⊤, Bool, true, IfErr, IsErrOf, IsSomeAnd, IsTrue, List, [], ◌∷◌, ◌++◌, get_or, length, map, slice_get, take, Option, Some, Result, Ok, Err}
use Rattle.std.specs.List.{AllByRecursion, AllZip, flat_map}
use Rattle.ii_io.specs.declared.faults.Fault.{Fault}
use Rattle.ii_io.specs.declared.faults.Fault.TheVariants.{Limit, OutOfMemory, Write}
use Rattle.ii_io.specs.declared.faults.LimitName.TheVariants.{Offset}
use Rattle.ii_io.specs.Faults.{memory_fault}
use Rattle.ii_io.specs.CountingWriter.{CountingWriterState, Grows, Wrote}
use Rattle.ii_alive.specs.Alive.{num_living}
use Rattle.ii_block_file.specs.ListedFile.{bytes_or_none}
use Rattle.ii_block_file.specs.declared.faults.ReadFault.TheVariants as reading
use Rattle.ii_doc_store.specs.declared.faults.StoreDamage.{StoreDamage}
use Rattle.ii_doc_store.specs.declared.faults.StoreFileFault.{StoreFileFault}
use Rattle.ii_doc_store.specs.declared.faults.StoreFileFault.TheVariants as blocks
use Rattle.ii_doc_store.specs.StoreFormat.{store_bytes}
use Rattle.ii_doc_store.specs.StoreReader.{HoldsDocuments, StoreReaderState, document_of, index_of, num_docs}
use Rattle.ii_doc_store.specs.StoreWriter.{HasStored, StoreWriterState}
use Rattle.ii_segments.specs.Segments.{is_living, living_docs}
use Rattle.ii_doc_store_merger.specs.declared.faults.StoreMergeFault.{StoreMergeFault}
use Rattle.ii_doc_store_merger.specs.declared.faults.StoreMergeFault.TheVariants.{Damaged, DocumentLen, NumDocs, Output, Read}
use Rattle.ii_doc_store_merger.specs.declared.store_source.StoreSource.{StoreSource}

-- ---- documents

-- The documents of a segment: whether each one is alive, and the bytes of all of them.
pub record SegmentDocuments : Type 0 where
  pub alive : List Bool
  pub documents : List (List ℕ)

-- the living documents of a segment, in order
abbrev pub living_documents : SegmentDocuments → List (List ℕ)
living_documents d = map (λ (doc : ℕ). get_or d.documents doc []) (living_docs d.alive)

-- the documents of an index of segments: the living ones, one segment after the other
abbrev pub documents_of_segments : List SegmentDocuments → List (List ℕ)
documents_of_segments ds = flat_map living_documents ds

-- ---- stores

-- a store, and which of its documents are alive
pub record StoreSourceState : Type 0 where
  pub store : StoreReaderState
  pub alive : List Bool

-- the model of a store that is merged, without bytes if those of its file aren't known
abbrev pub opened_store : {H : Type 0} → (H → Option (List ℕ)) → StoreSource H → StoreSourceState
opened_store bytes s = record { store = record { bytes = bytes_or_none (bytes s.store.file); checkpoints = s.store.checkpoints }; alive = s.alive.now }

-- the model of a store in memory that is merged
abbrev pub memory_store : StoreSource (List ℕ) → StoreSourceState
memory_store s = opened_store (λ (bytes : List ℕ). Some bytes) s

-- The bytes of a store's file are known, and can always be read.
pub record IsReadable {H : Type 0} (bytes : H → Option (List ℕ)) (is_sound : H → Type 0) (s : StoreSource H) : Type 0 where
  pub known : bytes s.store.file ≡ Some (bytes_or_none (bytes s.store.file))
  pub sound : is_sound s.store.file

-- A store has a document for each flag.
abbrev pub FitsFlags : StoreSourceState → Type 0
FitsFlags s = num_docs s.store.checkpoints ≡ length s.alive

-- A store has these documents, and the flags are theirs.
pub record SourceHolds (s : StoreSourceState) (d : SegmentDocuments) : Type 0 where
  pub store : HoldsDocuments s.store.bytes d.documents
  pub index : index_of s.store.bytes ≡ Ok s.store.checkpoints
  pub alive : s.alive ≡ d.alive

-- a document before others, or the first damage
abbrev pub with_first : Result (List ℕ) StoreDamage → Result (List (List ℕ)) StoreDamage → Result (List (List ℕ)) StoreDamage
with_first (Err damage) others = Err damage
with_first (Ok document) (Err damage) = Err damage
with_first (Ok document) (Ok documents) = Ok (document ∷ documents)

-- all documents that were read, or the first damage
abbrev pub all_read : List (Result (List ℕ) StoreDamage) → Result (List (List ℕ)) StoreDamage
all_read [] = Ok []
all_read (document ∷ others) = with_first document (all_read others)

-- the living documents of a store, or its first damaged block that has some
abbrev pub documents_of_source : StoreSourceState → Result (List (List ℕ)) StoreDamage
documents_of_source s = all_read (map (document_of s.store.bytes s.store.checkpoints) (living_docs s.alive))

-- A store gives its living documents.
abbrev pub IsSound : StoreSourceState → Type 0
IsSound s = (documents : List (List ℕ)) × (documents_of_source s ≡ Ok documents)

-- These are the living documents of stores, one store after the other.
pub record AreMergedDocuments (ss : List StoreSourceState) (documents : List (List ℕ)) : Type 0 where
  pub each : List (List (List ℕ))
  pub read : AllZip (λ (s : StoreSourceState) (ds : List (List ℕ)). documents_of_source s ≡ Ok ds) ss each
  pub joined : documents ≡ flat_map (λ (ds : List (List ℕ)). ds) each

-- Bytes are the store of the living documents of stores.
pub record IsMergedStore (ss : List StoreSourceState) (bytes : List ℕ) : Type 0 where
  pub documents : List (List ℕ)
  pub are : AreMergedDocuments ss documents
  pub is : bytes ≡ store_bytes documents
  pub holds : HoldsDocuments bytes documents

-- The store of the living documents of stores was written. If these hold documents, it holds the living ones.
pub record WroteMergedStore (ss : List StoreSourceState) (old new : CountingWriterState) : Type 0 where
  pub bytes : List ℕ
  pub wrote : Wrote old new bytes
  pub is : IsMergedStore ss bytes
  pub holds : (ds : List SegmentDocuments) → AllZip SourceHolds ss ds → HoldsDocuments bytes (documents_of_segments ds)

-- ---- faults

-- how many documents of stores are alive
abbrev pub num_living_of : List StoreSourceState → ℕ
num_living_of [] = 0
num_living_of (s ∷ ss) = num_living s.alive + num_living_of ss

-- The store at a place has this damage, and those before it give their living documents.
pub record IsFirstDamagedStore (ss : List StoreSourceState) (place : ℕ) (damage : StoreDamage) : Type 0 where
  pub store : StoreSourceState
  pub found : slice_get ss place ≡ Some store
  pub damaged : documents_of_source store ≡ Err damage
  pub before : AllByRecursion IsSound (take place ss)

-- A store has a living document that is too long for a store.
pub record HasLongDocument (s : StoreSourceState) : Type 0 where
  pub doc : ℕ
  pub document : List ℕ
  pub living : is_living s.alive doc ≡ true
  pub found : document_of s.store.bytes s.store.checkpoints doc ≡ Ok document
  pub long : 2 ^ 31 ≤ length document

-- A file can't be written to memory.
abbrev pub IsOutputFault : Fault → Type 0
IsOutputFault fault = (fault ≡ OutOfMemory) ⊎ (fault ≡ Limit Offset)

-- Why stores whose files can be read aren't merged in memory.
abbrev pub IsStoreMergeFault : List StoreSourceState → StoreMergeFault → Type 0
IsStoreMergeFault ss (Output fault) = IsOutputFault fault
IsStoreMergeFault ss (Read place fault) = fault ≡ reading.OutOfMemory
IsStoreMergeFault ss (Damaged place damage) = IsFirstDamagedStore ss place damage
IsStoreMergeFault ss (DocumentLen place) = IsSomeAnd (slice_get ss place) HasLongDocument
IsStoreMergeFault ss NumDocs = 2 ^ 31 ≤ num_living_of ss

-- The writer failed, or there is another cause.
abbrev pub OrWriterFailed : (StoreMergeFault → Type 0) → StoreMergeFault → Type 0
OrWriterFailed Cause fault = (fault ≡ Output Write) ⊎ Cause fault

-- the fault of a writer to memory, which fails only when an allocation fails
abbrev pub memory_merge_fault : StoreMergeFault → StoreMergeFault
memory_merge_fault (Output fault) = Output (memory_fault fault)
memory_merge_fault (Read place fault) = Read place fault
memory_merge_fault (Damaged place damage) = Damaged place damage
memory_merge_fault (DocumentLen place) = DocumentLen place
memory_merge_fault NumDocs = NumDocs

-- A fault is damage of a store.
abbrev pub IsStoreDamage : StoreMergeFault → Type 0
IsStoreDamage (Output fault) = ⊥
IsStoreDamage (Read place fault) = ⊥
IsStoreDamage (Damaged place damage) = ⊤
IsStoreDamage (DocumentLen place) = ⊥
IsStoreDamage NumDocs = ⊥

-- A store is damaged, or can't be read.
abbrev pub IsInputFault : StoreMergeFault → Type 0
IsInputFault (Output fault) = ⊥
IsInputFault (Read place fault) = ⊤
IsInputFault (Damaged place damage) = ⊤
IsInputFault (DocumentLen place) = ⊥
IsInputFault NumDocs = ⊥

-- why stores aren't merged, by why a block of the one at a place isn't read
abbrev pub block_fault : ℕ → StoreFileFault → StoreMergeFault
block_fault place (blocks.Damaged damage) = Damaged place damage
block_fault place (blocks.Read fault) = Read place fault

-- ---- what calls store

-- How a call that stores documents ends. If the writer fails, that is counted once. A fault closes the store, unless a source is damaged or can't be read.
pub record StoresMore (old new : StoreWriterState) (result : Result (Unit {0}) StoreMergeFault) : Type 0 where
  pub grows : Grows old.writer new.writer
  pub by_one : IsErrOf result (Output Write) → new.writer.failed_calls ≡ old.writer.failed_calls + 1
  pub no_other : ¬ IsErrOf result (Output Write) → new.writer.failed_calls ≡ old.writer.failed_calls
  pub closed : IfErr result (λ e. ¬ IsInputFault e → IsTrue new.closed)

-- Documents were stored after all others.
abbrev pub StoresDocuments : List (List ℕ) → StoreWriterState → StoreWriterState → Type 0
StoresDocuments documents old new = (initial : CountingWriterState) (before : List (List ℕ)) → HasStored initial old before → HasStored initial new (before ++ documents)

-- The living documents of a store were stored.
pub record StoresLiving (s : StoreSourceState) (old new : StoreWriterState) : Type 0 where
  pub documents : List (List ℕ)
  pub read : documents_of_source s ≡ Ok documents
  pub count : length documents ≡ num_living s.alive
  pub stored : StoresDocuments documents old new

-- The living documents of stores were stored.
pub record StoresAll (ss : List StoreSourceState) (old new : StoreWriterState) : Type 0 where
  pub documents : List (List ℕ)
  pub are : AreMergedDocuments ss documents
  pub count : length documents ≡ num_living_of ss
  pub stored : StoresDocuments documents old new

-- Why a document of a block can't be stored where there are so many documents.
abbrev pub IsDocumentFault : ℕ → ℕ → Result (List ℕ) StoreDamage → StoreMergeFault → Type 0
IsDocumentFault count place found (Output fault) = IsOutputFault fault
IsDocumentFault count place found (Read p fault) = ⊥
IsDocumentFault count place found (Damaged p damage) = (p ≡ place) × (found ≡ Err damage)
IsDocumentFault count place found (DocumentLen p) = (p ≡ place) × (document : List ℕ) × (found ≡ Ok document) × (2 ^ 31 ≤ length document)
IsDocumentFault count place found NumDocs = 2 ^ 31 - 1 ≤ count

-- Why the documents of a store at a place, whose file can be read, can't be stored where there are so many documents.
abbrev pub IsSourceFault : ℕ → ℕ → StoreSourceState → StoreMergeFault → Type 0
IsSourceFault count place s (Output fault) = IsOutputFault fault
IsSourceFault count place s (Read p fault) = (p ≡ place) × (fault ≡ reading.OutOfMemory)
IsSourceFault count place s (Damaged p damage) = (p ≡ place) × (documents_of_source s ≡ Err damage)
IsSourceFault count place s (DocumentLen p) = (p ≡ place) × HasLongDocument s
IsSourceFault count place s NumDocs = 2 ^ 31 ≤ count + num_living s.alive
