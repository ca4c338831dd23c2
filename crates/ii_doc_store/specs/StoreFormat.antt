-- The bytes of a store of documents: blocks of documents, an index of the blocks, and a footer.
use Rattle.std.specs.Prelude.{ℕ, ◌+◌, ◌/◌, Bool, if◌then◌else◌, List, [], ◌∷◌, ◌++◌, length, nat_le}
use Rattle.std.specs.List.{flat_map}
use Rattle.std.specs.Int.{w32, w64, to_le_bytes}
use Rattle.sha2.specs.Sha256.{sha256}
use Rattle.ii_doc_store.specs.declared.checkpoint.Checkpoint.{Checkpoint}
use Rattle.ii_doc_store.specs.declared.TheConstants.{BLOCK_SIZE}

-- a document in a block: its length (4), its bytes
unfoldable pub record_bytes : List ℕ → List ℕ
record_bytes document = to_le_bytes w32 (length document) ++ document

-- the bytes of a block
abbrev pub block_bytes : List (List ℕ) → List ℕ
block_bytes documents = flat_map record_bytes documents

-- whether documents fill a block
unfoldable pub fill_block : List (List ℕ) → Bool
fill_block documents = nat_le BLOCK_SIZE (length (block_bytes documents))

-- Documents cut into blocks: the full blocks, and the documents after them.
pub record Cut : Type 0 where
  pub full : List (List (List ℕ))
  pub rest : List (List ℕ)

-- one more document; if it fills the block, it is the last of the block
abbrev pub and_document : Cut → List ℕ → Cut
and_document c document = if fill_block (c.rest ++ document ∷ []) then record { full = c.full ++ (c.rest ++ document ∷ []) ∷ []; rest = [] } else record { full = c.full; rest = c.rest ++ document ∷ [] }

-- these documents after others
abbrev pub and_documents : Cut → List (List ℕ) → Cut
and_documents c [] = c
and_documents c (d ∷ ds) = and_documents (and_document c d) ds

-- documents cut into blocks
abbrev pub cut : List (List ℕ) → Cut
cut documents = and_documents (record { full = []; rest = [] }) documents

-- blocks, and one more of these documents if there are any
abbrev pub with_last : List (List (List ℕ)) → List (List ℕ) → List (List (List ℕ))
with_last blocks [] = blocks
with_last blocks (d ∷ ds) = blocks ++ (d ∷ ds) ∷ []

-- the blocks of documents
unfoldable pub blocks_of : List (List ℕ) → List (List (List ℕ))
blocks_of documents = with_last (cut documents).full (cut documents).rest

-- the checkpoint of a block whose first document and first byte are these
abbrev pub checkpoint_of : ℕ → ℕ → List (List ℕ) → Checkpoint
checkpoint_of doc byte block = record { doc_end = doc + length block; byte_end = byte + length (block_bytes block); digest = sha256 (block_bytes block) }

-- the checkpoints of blocks, of which the first begins with this document and this byte
abbrev pub checkpoints_from : ℕ → ℕ → List (List (List ℕ)) → List Checkpoint
checkpoints_from doc byte [] = []
checkpoints_from doc byte (b ∷ bs) = checkpoint_of doc byte b ∷ checkpoints_from (doc + length b) (byte + length (block_bytes b)) bs

-- a checkpoint: documents up to the end of the block (4), bytes up to there (8), SHA-256 of the block (32)
unfoldable pub checkpoint_bytes : Checkpoint → List ℕ
checkpoint_bytes c = to_le_bytes w32 c.doc_end ++ to_le_bytes w64 c.byte_end ++ c.digest

-- the index of blocks
abbrev pub index_bytes : List (List (List ℕ)) → List ℕ
index_bytes blocks = flat_map checkpoint_bytes (checkpoints_from 0 0 blocks)

-- the last bytes of a store, "nqstore1"
unfoldable pub format : List ℕ
format = 110 ∷ 113 ∷ 115 ∷ 116 ∷ 111 ∷ 114 ∷ 101 ∷ 49 ∷ []

-- the footer after an index: number of blocks (8), SHA-256 of the index (32), "nqstore1" (8)
unfoldable pub footer_bytes : List ℕ → List ℕ
footer_bytes index = to_le_bytes w64 (length index / 44) ++ sha256 index ++ format

-- the index and the footer
abbrev pub index_and_footer : List ℕ → List ℕ
index_and_footer index = index ++ footer_bytes index

-- the store of documents
unfoldable pub store_bytes : List (List ℕ) → List ℕ
store_bytes documents = flat_map block_bytes (blocks_of documents) ++ index_and_footer (index_bytes (blocks_of documents))
