-- A store that is read by ranges of its file.
use Rattle.std.specs.Prelude.{◌≡◌, ℕ, true, List, Option, Some, Ok}
use Rattle.ii_block_file.specs.declared.faults.ReadFault.TheVariants.{OutOfMemory}
use Rattle.ii_doc_store.specs.declared.checkpoint.Checkpoint.{Checkpoint}
use Rattle.ii_doc_store.specs.declared.faults.StoreFileFault.{StoreFileFault}
use Rattle.ii_doc_store.specs.declared.faults.StoreFileFault.TheVariants as file
use Rattle.ii_doc_store.specs.declared.faults.StoreOpenFault.{StoreOpenFault}
use Rattle.ii_doc_store.specs.declared.faults.StoreOpenFault.TheVariants as opening
use Rattle.ii_doc_store.specs.StoreReader.{are_in_order, index_of}

-- A store in a file: the file, and the checkpoints of its index.
pub record StoreFileState (H : Type 0) : Type 0 where
  pub file : H
  pub checkpoints : List Checkpoint

-- Checkpoints are in order, and where the bytes of their file are known, those of its index.
pub record IsFileIndex (known : Option (List ℕ)) (checkpoints : List Checkpoint) : Type 0 where
  pub end : ℕ
  pub ordered : are_in_order 0 0 end checkpoints ≡ true
  pub read : (bytes : List ℕ) → known ≡ Some bytes → index_of bytes ≡ Ok checkpoints

-- the fault of opening a store, as one of a store in a file
abbrev pub store_file_fault : StoreOpenFault → StoreFileFault
store_file_fault opening.OutOfMemory = file.Read OutOfMemory
store_file_fault (opening.Damaged damage) = file.Damaged damage
