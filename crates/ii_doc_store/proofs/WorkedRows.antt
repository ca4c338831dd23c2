-- Stores, computed on examples.
use Rattle.std.proofs.Common.{true, false, ◌≡◌, ℕ, List, [], ◌∷◌, ◌++◌, length, replicate, refl}
use Rattle.std.specs.Prelude.{Option, Some, None, Result, Err, is_none}
use Rattle.std.proofs.lemmas.List.{append-nil, length-append}
use Rattle.sha2.specs.Sha256.{sha256}
use Rattle.ii_doc_store.specs.declared.checkpoint.BlockPlace.{BlockPlace}
use Rattle.ii_doc_store.specs.declared.checkpoint.Checkpoint.{Checkpoint}
use Rattle.ii_doc_store.specs.declared.faults.StoreDamage.{StoreDamage}
use Rattle.ii_doc_store.specs.declared.faults.StoreDamage.TheVariants.{Footer}
use Rattle.ii_doc_store.specs.StoreFormat.{block_bytes, blocks_of, fill_block, format, footer_bytes, record_bytes, store_bytes}
use Rattle.ii_doc_store.specs.StoreReader.{after_record, are_in_order, block_with, document_in, has_footer, has_record, index_of, num_docs, record_of}

-- the documents `ab`, nothing and `c` in a block

abbrev three : List (List ℕ)
three = (97 ∷ 98 ∷ []) ∷ [] ∷ (99 ∷ []) ∷ []

abbrev block_of_three : List ℕ
block_of_three = 2 ∷ 0 ∷ 0 ∷ 0 ∷ 97 ∷ 98 ∷ 0 ∷ 0 ∷ 0 ∷ 0 ∷ 1 ∷ 0 ∷ 0 ∷ 0 ∷ 99 ∷ []

written_block : block_bytes three ≡ block_of_three
unfolding record_bytes
written_block = refl

one_block : blocks_of three ≡ three ∷ []
unfolding blocks_of fill_block record_bytes
one_block = refl

abbrev found : List ℕ → Option (List ℕ)
found document = Some document

abbrev absent : Option (List ℕ)
absent = None

document_0 : document_in 0 block_of_three ≡ found (97 ∷ 98 ∷ [])
unfolding has_record record_of after_record
document_0 = refl

document_1 : document_in 1 block_of_three ≡ found []
unfolding has_record record_of after_record
document_1 = refl

document_2 : document_in 2 block_of_three ≡ found (99 ∷ [])
unfolding has_record record_of after_record
document_2 = refl

document_3 : document_in 3 block_of_three ≡ absent
unfolding has_record record_of after_record
document_3 = refl

-- a store of no documents has no block
store_of_nothing : store_bytes [] ≡ replicate 8 0 ++ sha256 [] ++ format
unfolding store_bytes blocks_of footer_bytes format
store_of_nothing = refl

-- with its length, a document of 16,379 bytes leaves one byte of a block, which the next document fills

one_byte_left : (d : List ℕ) → length d ≡ 16379 → fill_block (d ∷ []) ≡ false
unfolding fill_block record_bytes
one_byte_left d size = rw (append-nil d, size) refl

filled_by_next : (d : List ℕ) → length d ≡ 16379 → fill_block (d ∷ (98 ∷ []) ∷ []) ≡ true
unfolding fill_block record_bytes
filled_by_next d size = rw (length-append d (1 ∷ 0 ∷ 0 ∷ 0 ∷ 98 ∷ []), size) refl

-- bytes without a footer

abbrev no_footer : Result (List Checkpoint) StoreDamage
no_footer = Err Footer

no_bytes : index_of [] ≡ no_footer
unfolding index_of has_footer
no_bytes = refl

few_bytes : index_of (replicate 47 0) ≡ no_footer
unfolding index_of has_footer
few_bytes = refl

other_format : index_of (replicate 48 0) ≡ no_footer
unfolding index_of has_footer format
other_format = refl

-- documents 0 and 1 are in block 0, document 2 in block 1, and 3 in none

abbrev two : List Checkpoint
two = record { doc_end = 2; byte_end = 16388; digest = 7 ∷ [] } ∷ record { doc_end = 3; byte_end = 16397; digest = 8 ∷ [] } ∷ []

abbrev block_0 : Option BlockPlace
block_0 = Some (record { number = 0; first_doc = 0; doc_end = 2; start = 0; end = 16388; digest = 7 ∷ [] })

abbrev block_1 : Option BlockPlace
block_1 = Some (record { number = 1; first_doc = 2; doc_end = 3; start = 16388; end = 16397; digest = 8 ∷ [] })

block_of_1 : block_with two 1 ≡ block_0
block_of_1 = refl

block_of_2 : block_with two 2 ≡ block_1
block_of_2 = refl

block_of_3 : is_none (block_with two 3) ≡ true
block_of_3 = refl

all_docs : num_docs two ≡ 3
all_docs = refl

in_order : are_in_order 0 0 16397 two ≡ true
in_order = refl

other_end : are_in_order 0 0 16398 two ≡ false
other_end = refl
