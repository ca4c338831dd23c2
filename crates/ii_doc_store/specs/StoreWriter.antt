-- The state of a writer of a store, and what its calls write.
use Rattle.std.specs.Prelude.{◌≡◌, ℕ, ◌+◌, ◌-◌, ◌^◌, ◌<◌, ⊤, Bool, if◌then◌else◌, List, [], ◌∷◌, ◌++◌, length, nat_le, Result, Ok, Err}
use Rattle.std.specs.List.{flat_map, AllByRecursion}
use Rattle.sha2.specs.Sha256.{sha256}
use Rattle.ii_io.specs.declared.faults.Fault.{Fault}
use Rattle.ii_io.specs.CountingWriter.{CountingWriterState, Wrote}
use Rattle.ii_doc_store.specs.declared.faults.StoreWriteFault.{StoreWriteFault}
use Rattle.ii_doc_store.specs.declared.faults.StoreWriteFault.TheVariants.{Output, DocumentLen, NumDocs}
use Rattle.ii_doc_store.specs.declared.TheConstants.{BLOCK_SIZE}
use Rattle.ii_doc_store.specs.StoreFormat.{block_bytes, checkpoint_bytes, cut, index_and_footer, index_bytes, record_bytes, store_bytes}
use Rattle.ii_doc_store.specs.StoreReader.{HoldsDocuments}

-- the writer, its bytes at the start, the index of the written blocks, the bytes of the next block, and the number of documents
pub record StoreWriterState : Type 0 where
  pub writer : CountingWriterState
  pub base : ℕ
  pub index : List ℕ
  pub block : List ℕ
  pub num_docs : ℕ
  pub closed : Bool

-- what a call writes that stores a document: the block that it fills
abbrev pub stored_bytes : List ℕ → List ℕ → List ℕ
stored_bytes block document = if nat_le BLOCK_SIZE (length (block ++ record_bytes document)) then block ++ record_bytes document else []

-- the index with one more block: its documents and bytes are counted from the start of the store
abbrev pub index_with : List ℕ → ℕ → ℕ → List ℕ → List ℕ
index_with index doc_end byte_end block = index ++ checkpoint_bytes (record { doc_end = doc_end; byte_end = byte_end; digest = sha256 block })

-- the index with the last block, if it has documents
abbrev pub last_index : StoreWriterState → List ℕ → List ℕ
last_index s [] = s.index
last_index s (b ∷ bs) = index_with s.index s.num_docs (s.writer.written_bytes + length (b ∷ bs) - s.base) (b ∷ bs)

-- what is written at the end: the last block, the index and the footer
abbrev pub end_bytes : StoreWriterState → List ℕ
end_bytes s = s.block ++ index_and_footer (last_index s s.block)

-- Exactly these documents were stored since the writer was wrapped.
pub record HasStored (initial : CountingWriterState) (s : StoreWriterState) (documents : List (List ℕ)) : Type 0 where
  pub writer : Wrote initial s.writer (flat_map block_bytes (cut documents).full)
  pub base : s.base ≡ initial.written_bytes
  pub index : s.index ≡ index_bytes (cut documents).full
  pub block : s.block ≡ block_bytes (cut documents).rest
  pub num_docs : s.num_docs ≡ length documents
  pub few : length documents < 2 ^ 31
  pub lengths : AllByRecursion (λ (d : List ℕ). length d < 2 ^ 31) documents

-- A document was stored after all others.
abbrev pub AddsDocument : StoreWriterState → StoreWriterState → List ℕ → Type 0
AddsDocument old new document = (initial : CountingWriterState) (documents : List (List ℕ)) → HasStored initial old documents → HasStored initial new (documents ++ document ∷ [])

-- The next block was written, of which the index has the end.
pub record EndsBlock (old new : StoreWriterState) : Type 0 where
  pub writer : Wrote old.writer new.writer old.block
  pub base : new.base ≡ old.base
  pub index : new.index ≡ index_with old.index old.num_docs (new.writer.written_bytes - old.base) old.block
  pub block : new.block ≡ []
  pub num_docs : new.num_docs ≡ old.num_docs

-- What a call ensures unless it passes a limit of the store.
abbrev pub OfOutput : Result (Unit {0}) StoreWriteFault → (Result (Unit {0}) Fault → Type 0) → Type 0
OfOutput (Ok u) P = P (Ok u)
OfOutput (Err (Output fault)) P = P (Err fault)
OfOutput (Err DocumentLen) P = ⊤
OfOutput (Err NumDocs) P = ⊤

-- What a call ensures if it passes a limit of the store.
abbrev pub OfLimit : Result (Unit {0}) StoreWriteFault → Type 0 → Type 0
OfLimit (Ok u) P = ⊤
OfLimit (Err (Output fault)) P = ⊤
OfLimit (Err DocumentLen) P = P
OfLimit (Err NumDocs) P = P

-- The store of these documents was written, and gives them back.
pub record WroteStore (old new : CountingWriterState) (documents : List (List ℕ)) : Type 0 where
  pub wrote : Wrote old new (store_bytes documents)
  pub holds : HoldsDocuments (store_bytes documents) documents
