-- The stored documents of segments, and the file that they are merged into.
use Rattle.std.specs.Prelude.{◌≡◌, ℕ, ◌≤◌, ◌^◌, ◌⊎◌, ◌==◌, Bool, true, IfSome, IsSomeAnd, is_none, List, length, replicate, slice_get, take, Option, None, Some, Result, Ok, Err, if◌then◌else◌}
use Rattle.std.specs.List.{AllByRecursion, AllZip, list_any}
use Rattle.std.specs.Option.{option_map}
use Rattle.ii_io.specs.declared.faults.Fault.TheVariants.{OutOfMemory}
use Rattle.ii_block_file.specs.ListedFile.{HasKnownBytes, bytes_or_none}
use Rattle.ii_block_file.specs.declared.block_file.BlockFile.{BlockFile}
use Rattle.ii_block_file.specs.declared.faults.ReadFault.{ReadFault}
use Rattle.ii_block_file.specs.declared.faults.ReadFault.TheVariants as reads
use Rattle.ii_file_slice.specs.FileSlice.{IsTableOf, bytes_if}
use Rattle.ii_doc_store.specs.declared.checkpoint.Checkpoint.{Checkpoint}
use Rattle.ii_doc_store.specs.declared.faults.StoreFileFault.{StoreFileFault}
use Rattle.ii_doc_store.specs.declared.faults.StoreFileFault.TheVariants as opens
use Rattle.ii_doc_store.specs.declared.faults.StoreDamage.{StoreDamage}
use Rattle.ii_doc_store.specs.declared.faults.StoreDamage.TheVariants.{Index}
use Rattle.ii_doc_store.specs.StoreReader.{HoldsDocuments, index_of, num_docs}
use Rattle.ii_doc_store_merger.specs.StoreSources.{HasLongDocument, IsFirstDamagedStore, IsMergedStore, IsOutputFault, SegmentDocuments, StoreSourceState, documents_of_segments, num_living_of}
use Rattle.ii_doc_store_merger.specs.declared.faults.StoreMergeFault.{StoreMergeFault}
use Rattle.ii_doc_store_merger.specs.declared.faults.StoreMergeFault.TheVariants as stores
use Rattle.ii_segment_store.specs.Contents.{SegmentContents}
use Rattle.nequllpa_merging.specs.declared.faults.MergeFault.{MergeFault}
use Rattle.nequllpa_merging.specs.declared.faults.MergeFault.TheVariants.{LongDocument, Merge, Read, Segment, Store, TooManyDocuments, TooManyFields}
use Rattle.nequllpa_merging.specs.declared.opening.OpenedSegment.{OpenedSegment}

-- the bytes of the file of a segment's stored documents, if there is one, and whether each document is alive
pub record StoredFile : Type 0 where
  pub bytes : Option (List ℕ)
  pub alive : List Bool

-- the file of a segment
abbrev pub stored_file : SegmentContents → StoredFile
stored_file c = record { bytes = c.store; alive = c.alive }

-- the file of an open segment, given what bytes its source has
abbrev pub stored_view : {F : Type 0} → (F → Option (List ℕ)) → OpenedSegment F → StoredFile
stored_view bytes o = record { bytes = option_map (λ b. bytes_or_none (bytes b.source)) o.store; alive = o.alive }

-- The bytes of an open segment's file of stored documents are known.
abbrev pub KnowsStore : {F : Type 0} → (F → Option (List ℕ)) → OpenedSegment F → Type 0
KnowsStore bytes o = IfSome o.store (HasKnownBytes bytes)

-- what is known of the bytes of a file with a table
abbrev pub file_bytes : {F : Type 0} → (F → Option (List ℕ)) → BlockFile F → Option (List ℕ)
file_bytes bytes b = bytes_if b.table (bytes b.source)

-- A file's table is that of its bytes.
abbrev pub is_sound_file : {F : Type 0} → (F → Option (List ℕ)) → BlockFile F → Type 0
is_sound_file bytes b = IsTableOf b.table (bytes b.source)

-- a store, if its index is sound and it has a document for each flag
abbrev pub fitting_store : List ℕ → List Bool → Result (List Checkpoint) StoreDamage → Result StoreSourceState StoreDamage
fitting_store bytes alive (Err damage) = Err damage
fitting_store bytes alive (Ok checkpoints) = if num_docs checkpoints == length alive then Ok (record { store = record { bytes = bytes; checkpoints = checkpoints }; alive = alive }) else Err Index

-- the store in a file, if there is a file, or the damage of its index
abbrev pub store_in : StoredFile → Option (Result StoreSourceState StoreDamage)
store_in f = option_map (λ (bytes : List ℕ). fitting_store bytes f.alive (index_of bytes)) f.bytes

-- A file opens as this store.
abbrev pub OpensStore : StoredFile → StoreSourceState → Type 0
OpensStore f s = store_in f ≡ Some (Ok s)

-- A file opens.
abbrev pub HasStore : StoredFile → Type 0
HasStore f = (s : StoreSourceState) × OpensStore f s

-- Stores were opened: one for each file, or none since a file is missing.
abbrev pub AreOpenStores : List StoredFile → Option (List StoreSourceState) → Type 0
AreOpenStores fs None = list_any (λ (f : StoredFile). is_none f.bytes) fs ≡ true
AreOpenStores fs (Some ss) = AllZip OpensStore fs ss

-- The file that stored documents are merged into: there is one if each segment has one.
abbrev pub HasMergedStore : List StoredFile → Option (List ℕ) → Type 0
HasMergedStore fs None = list_any (λ (f : StoredFile). is_none f.bytes) fs ≡ true
HasMergedStore fs (Some bytes) = (ss : List StoreSourceState) × AllZip OpensStore fs ss × IsMergedStore ss bytes

-- The file at a place has a damaged index, and those before it open.
pub record IsFirstDamagedIndex (fs : List StoredFile) (place : ℕ) (damage : StoreDamage) : Type 0 where
  pub file : StoredFile
  pub found : slice_get fs place ≡ Some file
  pub damaged : store_in file ≡ Some (Err damage)
  pub before : AllByRecursion HasStore (take place fs)

-- Why stores aren't opened.
abbrev pub IsOpenStoresFault : List StoredFile → MergeFault → Type 0
IsOpenStoresFault fs (Segment place part) = ⊥
IsOpenStoresFault fs (Store place damage) = IsFirstDamagedIndex fs place damage
IsOpenStoresFault fs (Read place fault) = ⊥
IsOpenStoresFault fs (LongDocument place) = ⊥
IsOpenStoresFault fs TooManyDocuments = ⊥
IsOpenStoresFault fs TooManyFields = ⊥
IsOpenStoresFault fs (Merge fault) = fault ≡ OutOfMemory

-- All files open, and this is so of their stores.
abbrev pub AllStoresOpen : List StoredFile → (List StoreSourceState → Type 0) → Type 0
AllStoresOpen fs P = (ss : List StoreSourceState) × AllZip OpensStore fs ss × P ss

-- Why stored documents aren't merged: indexes are read before blocks.
abbrev pub IsStoresFault : List StoredFile → MergeFault → Type 0
IsStoresFault fs (Segment place part) = ⊥
IsStoresFault fs (Store place damage) = IsFirstDamagedIndex fs place damage ⊎ AllStoresOpen fs (λ ss. IsFirstDamagedStore ss place damage)
IsStoresFault fs (Read place fault) = ⊥
IsStoresFault fs (LongDocument place) = AllStoresOpen fs (λ ss. IsSomeAnd (slice_get ss place) HasLongDocument)
IsStoresFault fs TooManyDocuments = AllStoresOpen fs (λ ss. 2 ^ 31 ≤ num_living_of ss)
IsStoresFault fs TooManyFields = ⊥
IsStoresFault fs (Merge fault) = IsOutputFault fault

-- why segments aren't merged, where the file of the one at a place isn't read
abbrev pub read_fault : ℕ → ReadFault → MergeFault
read_fault place reads.OutOfMemory = Merge OutOfMemory
read_fault place reads.Range = Read place reads.Range
read_fault place (reads.Refused kind) = Read place (reads.Refused kind)
read_fault place (reads.Damaged block) = Read place (reads.Damaged block)

-- why segments aren't merged, where the store of the one at a place isn't opened
abbrev pub store_fault : ℕ → StoreFileFault → MergeFault
store_fault place (opens.Damaged damage) = Store place damage
store_fault place (opens.Read fault) = read_fault place fault

-- why segments aren't merged, by why their stores aren't
abbrev pub stores_fault : StoreMergeFault → MergeFault
stores_fault (stores.Output fault) = Merge fault
stores_fault (stores.Read place fault) = read_fault place fault
stores_fault (stores.Damaged place damage) = Store place damage
stores_fault (stores.DocumentLen place) = LongDocument place
stores_fault stores.NumDocs = TooManyDocuments

-- A file, if there is one, is a store of as many documents as there are flags.
abbrev pub HoldsSomeDocuments : Option (List ℕ) → ℕ → Type 0
HoldsSomeDocuments file count = IfSome file (λ bytes. (documents : List (List ℕ)) × HoldsDocuments bytes documents × (length documents ≡ count))

-- A file is the store of these documents.
pub record HoldsStored (f : StoredFile) (d : SegmentDocuments) : Type 0 where
  pub store : IsSomeAnd f.bytes (λ bytes. HoldsDocuments bytes d.documents)
  pub alive : f.alive ≡ d.alive
  pub count : length d.documents ≡ length d.alive

-- the documents that those of segments are merged into: the living ones, which are all alive
abbrev pub merged_documents : List SegmentDocuments → SegmentDocuments
merged_documents ds = record { alive = replicate (length (documents_of_segments ds)) true; documents = documents_of_segments ds }
