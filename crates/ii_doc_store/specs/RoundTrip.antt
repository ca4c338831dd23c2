-- The laws of stores: what is written is read back, a damaged block is named, and blocks are no larger than they must be.
use Rattle.std.specs.Prelude.{◌≡◌, ℕ, ◌-◌, ◌^◌, ◌<◌, true, false, List, [], ◌++◌, length, take, get_or, Some, Ok, Err}
use Rattle.std.specs.List.{flat_map, AllByRecursion}
use Rattle.sha2.specs.Sha256.{sha256}
use Rattle.ii_doc_store.specs.declared.checkpoint.BlockPlace.{BlockPlace}
use Rattle.ii_doc_store.specs.declared.checkpoint.Checkpoint.{Checkpoint}
use Rattle.ii_doc_store.specs.declared.faults.StoreDamage.TheVariants.{Block}
use Rattle.ii_doc_store.specs.StoreFormat.{Cut, cut, fill_block, store_bytes}
use Rattle.ii_doc_store.specs.StoreReader.{HoldsDocuments, block_with, bytes_of_block, document_of, index_of}

-- Documents that a store can have.
pub record AreStorable (documents : List (List ℕ)) : Type 0 where
  pub few : length documents < 2 ^ 31
  pub lengths : AllByRecursion (λ (d : List ℕ). length d < 2 ^ 31) documents
  pub size : length (store_bytes documents) < 2 ^ 64

-- The store of documents holds exactly these.
abbrev pub GivesDocumentsBack : Type 0
GivesDocumentsBack = (documents : List (List ℕ)) → AreStorable documents → HoldsDocuments (store_bytes documents) documents

-- A block with the bytes that it had gives its documents, whatever the others have. One with another SHA-256 is named.
pub record NamesDamage (bytes damaged : List ℕ) (checkpoints : List Checkpoint) (documents : List (List ℕ)) (doc : ℕ) (block : BlockPlace) : Type 0 where
  pub same : bytes_of_block damaged block ≡ bytes_of_block bytes block → document_of damaged checkpoints doc ≡ Ok (get_or documents doc [])
  pub other : (sha256 (bytes_of_block damaged block) ≡ sha256 (bytes_of_block bytes block) → ⊥) → document_of damaged checkpoints doc ≡ Err (Block block.number)

-- This is so for each document of a store, in bytes with the same index.
abbrev pub NamesDamagedBlocks : Type 0
NamesDamagedBlocks =
    (bytes damaged : List ℕ) (documents : List (List ℕ)) (checkpoints : List Checkpoint) (doc : ℕ) (block : BlockPlace) → HoldsDocuments bytes documents → index_of bytes ≡ Ok checkpoints → doc < length documents
    → block_with checkpoints doc ≡ Some block → NamesDamage bytes damaged checkpoints documents doc block

-- Each document is in one block, in order. A block is full by its last document, and the documents after the blocks fill none.
pub record IsCut (documents : List (List ℕ)) (c : Cut) : Type 0 where
  pub joined : flat_map (λ (b : List (List ℕ)). b) c.full ++ c.rest ≡ documents
  pub full : AllByRecursion (λ (b : List (List ℕ)). fill_block b ≡ true) c.full
  pub by_last : AllByRecursion (λ (b : List (List ℕ)). fill_block (take (length b - 1) b) ≡ false) c.full
  pub rest : fill_block c.rest ≡ false

-- Documents are cut so.
abbrev pub CutsIntoBlocks : Type 0
CutsIntoBlocks = (documents : List (List ℕ)) → IsCut documents (cut documents)
