-- What the bytes of a store hold: its index, and the documents in its blocks.
use Rattle.std.specs.Prelude.{◌≡◌, ℕ, zero, suc, ◌-◌, ◌*◌, ◌<◌, ◌≤◌, Bool, not, ◌&&◌, if◌then◌else◌, List, [], ◌∷◌, length, take, drop, get_or, slice_range, nat_eq, nat_lt, nat_le, bytes_eq, Option, None, Some, Result, Ok, Err}
use Rattle.std.specs.Int.{w32, w64, from_le_bytes}
use Rattle.sha2.specs.Sha256.{sha256}
use Rattle.ii_doc_store.specs.declared.checkpoint.BlockPlace.{BlockPlace}
use Rattle.ii_doc_store.specs.declared.checkpoint.Checkpoint.{Checkpoint}
use Rattle.ii_doc_store.specs.declared.faults.StoreDamage.{StoreDamage}
use Rattle.ii_doc_store.specs.declared.faults.StoreDamage.TheVariants.{Footer, Index, Block}
use Rattle.ii_doc_store.specs.StoreFormat.{format}

-- A reader: the bytes of a store, and the checkpoints of its index.
pub record StoreReaderState : Type 0 where
  pub bytes : List ℕ
  pub checkpoints : List Checkpoint

-- the last 48 bytes
abbrev pub footer_of : List ℕ → List ℕ
footer_of bytes = drop (length bytes - 48) bytes

-- the number of blocks that a footer tells
abbrev pub blocks_in_footer : List ℕ → ℕ
blocks_in_footer footer = from_le_bytes w64 (take 8 footer)

-- the number of blocks that the footer of a store tells
abbrev pub num_blocks_of : List ℕ → ℕ
num_blocks_of bytes = blocks_in_footer (footer_of bytes)

-- whether 48 bytes are the footer of a store of so many bytes, which are enough for the index
abbrev pub is_footer : ℕ → List ℕ → Bool
is_footer len footer = bytes_eq (drop 40 footer) format && nat_le (44 * blocks_in_footer footer) (len - 48)

-- whether bytes end with a footer, and are enough for the index
unfoldable pub has_footer : List ℕ → Bool
has_footer bytes = nat_le 48 (length bytes) && is_footer (length bytes) (footer_of bytes)

-- where the blocks end and the index begins
abbrev pub blocks_end : List ℕ → ℕ
blocks_end bytes = length bytes - 48 - 44 * num_blocks_of bytes

-- the bytes of the index
abbrev pub index_part : List ℕ → List ℕ
index_part bytes = slice_range bytes (blocks_end bytes) (length bytes - 48)

-- the checkpoint in 44 bytes
unfoldable pub checkpoint_in : List ℕ → Checkpoint
checkpoint_in bytes = record { doc_end = from_le_bytes w32 (take 4 bytes); byte_end = from_le_bytes w64 (take 8 (drop 4 bytes)); digest = drop 12 bytes }

-- a number of checkpoints, one after the other
abbrev pub checkpoints_in : ℕ → List ℕ → List Checkpoint
checkpoints_in zero bytes = []
checkpoints_in (suc count) bytes = checkpoint_in (take 44 bytes) ∷ checkpoints_in count (drop 44 bytes)

-- the checkpoints of the index
abbrev pub checkpoints_of : List ℕ → List Checkpoint
checkpoints_of bytes = checkpoints_in (num_blocks_of bytes) (index_part bytes)

-- whether checkpoints don't decrease, from a document and a byte on, and the last one ends where the blocks end
abbrev pub are_in_order : ℕ → ℕ → ℕ → List Checkpoint → Bool
are_in_order doc byte end [] = nat_eq byte end
are_in_order doc byte end (c ∷ cs) = nat_le doc c.doc_end && nat_le byte c.byte_end && are_in_order c.doc_end c.byte_end end cs

-- whether a footer has the SHA-256 of an index of so many checkpoints, and these are in order up to where the blocks end
abbrev pub is_index : ℕ → ℕ → List ℕ → List ℕ → Bool
is_index count end footer index = bytes_eq (take 32 (drop 8 footer)) (sha256 index) && are_in_order 0 0 end (checkpoints_in count index)

-- whether the index is the one of which the footer has the SHA-256, and is in order
unfoldable pub has_index : List ℕ → Bool
has_index bytes = is_index (num_blocks_of bytes) (blocks_end bytes) (footer_of bytes) (index_part bytes)

-- the index of a store, or the part that is damaged
unfoldable pub index_of : List ℕ → Result (List Checkpoint) StoreDamage
index_of bytes = if not (has_footer bytes) then Err Footer else if not (has_index bytes) then Err Index else Ok (checkpoints_of bytes)

-- the number of documents up to the end of the last block
abbrev pub num_docs_from : ℕ → List Checkpoint → ℕ
num_docs_from doc [] = doc
num_docs_from doc (c ∷ cs) = num_docs_from c.doc_end cs

-- the number of documents
abbrev pub num_docs : List Checkpoint → ℕ
num_docs checkpoints = num_docs_from 0 checkpoints

-- the block with a document: the first that ends after it, among those from a number, a document and a byte on
abbrev pub block_with_from : ℕ → ℕ → ℕ → List Checkpoint → ℕ → Option BlockPlace
block_with_from number first start [] doc = None
block_with_from number first start (c ∷ cs) doc =
    if nat_lt doc c.doc_end then Some (record { number = number; first_doc = first; doc_end = c.doc_end; start = start; end = c.byte_end; digest = c.digest })
    else block_with_from (suc number) c.doc_end c.byte_end cs doc

-- where the block before block n ends, as a document and a byte; the first block begins with this document and this byte
abbrev pub ends_before_from : ℕ → ℕ → List Checkpoint → ℕ → ℕ × ℕ
ends_before_from doc byte cs zero = (doc, byte)
ends_before_from doc byte [] (suc n) = (doc, byte)
ends_before_from doc byte (c ∷ cs) (suc n) = ends_before_from c.doc_end c.byte_end cs n

-- the block with a document
abbrev pub block_with : List Checkpoint → ℕ → Option BlockPlace
block_with checkpoints doc = block_with_from 0 0 0 checkpoints doc

-- the length at the start of a document in a block
abbrev pub len_in : List ℕ → ℕ
len_in bytes = from_le_bytes w32 (take 4 bytes)

-- whether there is a complete document at the start of the bytes
unfoldable pub has_record : List ℕ → Bool
has_record bytes = nat_le 4 (length bytes) && nat_le (len_in bytes) (length bytes - 4)

-- the document at the start of the bytes
unfoldable pub record_of : List ℕ → List ℕ
record_of bytes = take (len_in bytes) (drop 4 bytes)

-- the bytes after it
unfoldable pub after_record : List ℕ → List ℕ
after_record bytes = drop (len_in bytes) (drop 4 bytes)

-- document k of a block, from 0
abbrev pub document_in : ℕ → List ℕ → Option (List ℕ)
document_in zero bytes = if has_record bytes then Some (record_of bytes) else None
document_in (suc k) bytes = if has_record bytes then document_in k (after_record bytes) else None

-- a document that a block must have, or the damaged block
abbrev pub or_damaged : ℕ → Option (List ℕ) → Result (List ℕ) StoreDamage
or_damaged number None = Err (Block number)
or_damaged number (Some document) = Ok document

-- the bytes of a block
abbrev pub bytes_of_block : List ℕ → BlockPlace → List ℕ
bytes_of_block bytes b = slice_range bytes b.start b.end

-- the document in a block whose SHA-256 is the right one, or the damaged block
unfoldable pub document_of_block : List ℕ → BlockPlace → ℕ → Result (List ℕ) StoreDamage
document_of_block bytes b doc =
    if not (bytes_eq b.digest (sha256 (bytes_of_block bytes b))) then Err (Block b.number)
    else or_damaged b.number (document_in (doc - b.first_doc) (bytes_of_block bytes b))

-- the document in its block; where no block has it, the index is damaged
abbrev pub document_of_place : List ℕ → Option BlockPlace → ℕ → Result (List ℕ) StoreDamage
document_of_place bytes None doc = Err Index
document_of_place bytes (Some b) doc = document_of_block bytes b doc

-- a document of a store with these checkpoints, or the damaged block
abbrev pub document_of : List ℕ → List Checkpoint → ℕ → Result (List ℕ) StoreDamage
document_of bytes checkpoints doc = document_of_place bytes (block_with checkpoints doc) doc

-- A block that was read: its number, its first document, the documents up to its end, and its bytes.
pub record StoreBlockState : Type 0 where
  pub number : ℕ
  pub first_doc : ℕ
  pub doc_end : ℕ
  pub bytes : List ℕ

-- a document of a block that was read, or the damaged block
abbrev pub document_of_read : StoreBlockState → ℕ → Result (List ℕ) StoreDamage
document_of_read b doc = or_damaged b.number (document_in (doc - b.first_doc) b.bytes)

-- A block gives the documents from its first one up to its end as the store does.
pub record IsBlockOf (bytes : List ℕ) (checkpoints : List Checkpoint) (b : StoreBlockState) : Type 0 where
  pub docs : b.doc_end ≤ num_docs checkpoints
  pub each : (doc : ℕ) → b.first_doc ≤ doc → doc < b.doc_end → document_of_read b doc ≡ document_of bytes checkpoints doc

-- A block has these documents, from its first one up to its end.
pub record HoldsBlock (documents : List (List ℕ)) (b : StoreBlockState) : Type 0 where
  pub docs : b.doc_end ≤ length documents
  pub each : (doc : ℕ) → b.first_doc ≤ doc → doc < b.doc_end → document_of_read b doc ≡ Ok (get_or documents doc [])

-- Bytes are a store of these documents: it opens, has as many, and gives each one by its number.
pub record HoldsDocuments (bytes : List ℕ) (documents : List (List ℕ)) : Type 0 where
  pub checkpoints : List Checkpoint
  pub index : index_of bytes ≡ Ok checkpoints
  pub count : num_docs checkpoints ≡ length documents
  pub each : (doc : ℕ) → doc < length documents → document_of bytes checkpoints doc ≡ Ok (get_or documents doc [])
