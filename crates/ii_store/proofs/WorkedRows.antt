-- Lists of segments, computed on examples.
use Rattle.std.proofs.Common.{◌≡◌, ℕ, true, false, List, [], ◌∷◌, ◌++◌, Ok, Err, refl}
use Rattle.std.specs.Prelude.{Result, replicate}
use Rattle.std.specs.Hash.DefaultHasher.{finish, initial, round, write, write_byte, write_word}
use Rattle.ii_store.specs.declared.faults.IndexFault.{IndexFault}
use Rattle.ii_store.specs.declared.faults.IndexFault.TheVariants.{DamagedMeta}
use Rattle.ii_store.specs.declared.file_digest.FileDigest.{FileDigest}
use Rattle.ii_store.specs.declared.file_digest.FileDigest.TheVariants.{Sha256, LongBlocks, Blocks}
use Rattle.ii_store.specs.declared.index_meta.FileMeta.{FileMeta}
use Rattle.ii_directory.specs.declared.name.Name.TheVariants.{Meta, NewMeta, Segment}
use Rattle.ii_directory.specs.declared.name.SegmentComponent.{SegmentComponent}
use Rattle.ii_directory.specs.declared.name.SegmentComponent.TheVariants.{Alive, BlockTables, Counts, FieldNorms, Positions, Store, Terms}
use Rattle.ii_store.specs.Collect.{is_garbage}
use Rattle.ii_store.specs.FileDigest.{block_checksum, blocks}
use Rattle.ii_store.specs.IndexMeta.{MetaState, SegmentState, bytes_at, component_of, digest_at, digest_of, file_at, is_consistent, is_segment, items_at, digest_kind_at, number_at, segment_at}

-- the components of the numbers 2, 5, 6, 7 and 8; only living documents have a generation

abbrev damaged : Result SegmentComponent IndexFault
damaged = Err DamagedMeta

abbrev component : SegmentComponent → Result SegmentComponent IndexFault
component c = Ok c

component_2 : component_of 2 0 ≡ component Positions
unfolding component_of
component_2 = refl

component_5 : component_of 5 7 ≡ component (Alive 7)
unfolding component_of
component_5 = refl

component_6 : component_of 6 0 ≡ component Store
unfolding component_of
component_6 = refl

component_7 : component_of 7 0 ≡ component BlockTables
unfolding component_of
component_7 = refl

component_8 : component_of 8 0 ≡ damaged
unfolding component_of
component_8 = refl

positions_of_a_generation : component_of 2 7 ≡ damaged
unfolding component_of
positions_of_a_generation = refl

store_of_a_generation : component_of 6 7 ≡ damaged
unfolding component_of
store_of_a_generation = refl

-- segment 1 of 3 documents, of which 2 are alive, without files; a byte comes after it

abbrev one : SegmentState
one = record { id = 1; num_docs = 3; num_living = 2; files = [] }

abbrev read : SegmentState → List ℕ → Result (SegmentState × List ℕ) IndexFault
read s rest = Ok (s, rest)

segment_1 : segment_at 3 (1 ∷ 0 ∷ 0 ∷ 0 ∷ 0 ∷ 0 ∷ 0 ∷ 0 ∷ 3 ∷ 0 ∷ 0 ∷ 0 ∷ 2 ∷ 0 ∷ 0 ∷ 0 ∷ 0 ∷ 0 ∷ 9 ∷ []) ≡ read one (9 ∷ [])
unfolding segment_at number_at items_at
segment_1 = refl

-- the file of field norms, of one byte, in a list of version 3: its digest is of kind 0, a SHA-256, 1, of long blocks, or 2, of blocks

abbrev digest_32 : List ℕ
digest_32 = replicate 32 7

abbrev norms : FileDigest → Result (FileMeta × List ℕ) IndexFault
norms digest = Ok (record { component = FieldNorms; len = 1; digest = digest }, 9 ∷ [])

abbrev no_file : Result (FileMeta × List ℕ) IndexFault
no_file = Err DamagedMeta

-- a file of a list of a version, with these bytes after its length
abbrev file_with : ℕ → List ℕ → Result (FileMeta × List ℕ) IndexFault
file_with version bytes = file_at version ((3 ∷ 0 ∷ 0 ∷ 0 ∷ 0 ∷ 0 ∷ 0 ∷ 0 ∷ 0 ∷ 0 ∷ 1 ∷ 0 ∷ 0 ∷ 0 ∷ 0 ∷ 0 ∷ 0 ∷ 0 ∷ []) ++ bytes)

sha256_kind : file_with 3 (0 ∷ digest_32 ++ 9 ∷ []) ≡ norms (Sha256 digest_32)
unfolding file_at number_at digest_at digest_kind_at bytes_at digest_of component_of
sha256_kind = refl

long_blocks_kind : file_with 3 (1 ∷ digest_32 ++ 9 ∷ []) ≡ norms (LongBlocks digest_32)
unfolding file_at number_at digest_at digest_kind_at bytes_at digest_of component_of
long_blocks_kind = refl

blocks_kind : file_with 3 (2 ∷ digest_32 ++ 9 ∷ []) ≡ norms (Blocks digest_32)
unfolding file_at number_at digest_at digest_kind_at bytes_at digest_of component_of
blocks_kind = refl

unknown_kind : file_with 3 (3 ∷ digest_32 ++ 9 ∷ []) ≡ no_file
unfolding file_at number_at digest_at digest_kind_at bytes_at digest_of component_of
unknown_kind = refl

-- in a list of version 2 there is no kind

without_kind : file_with 2 (digest_32 ++ 9 ∷ []) ≡ norms (Sha256 digest_32)
unfolding file_at number_at digest_at digest_kind_at bytes_at digest_of component_of
without_kind = refl

-- blocks of two bytes

no_block : blocks 2 [] ≡ []
no_block = refl

whole_blocks : blocks 2 (1 ∷ 2 ∷ 3 ∷ 4 ∷ []) ≡ (1 ∷ 2 ∷ []) ∷ (3 ∷ 4 ∷ []) ∷ []
whole_blocks = refl

short_block : blocks 2 (1 ∷ 2 ∷ 3 ∷ []) ≡ (1 ∷ 2 ∷ []) ∷ (3 ∷ []) ∷ []
short_block = refl

-- checksums of one byte, of nine, and of the text "abc", as CPython 3.11 hashes them by the same function

checksum_of_1 : block_checksum (1 ∷ []) ≡ 4952851536318644461
unfolding block_checksum initial write finish write_byte write_word round
checksum_of_1 = refl

checksum_of_9 : block_checksum (1 ∷ 2 ∷ 3 ∷ 4 ∷ 5 ∷ 6 ∷ 7 ∷ 8 ∷ 9 ∷ []) ≡ 179815269749075123
unfolding block_checksum initial write finish write_byte write_word round
checksum_of_9 = refl

checksum_of_abc : block_checksum (97 ∷ 98 ∷ 99 ∷ []) ≡ 13851880170939887858
unfolding block_checksum initial write finish write_byte write_word round
checksum_of_abc = refl

-- a list of segment 1: its id must be below the next one, and occur once

abbrev list : ℕ → List SegmentState → MetaState
list next segments = record { generation = 1; next_segment_id = next; schema = []; segments = segments }

below_next : is_consistent (list 2 (one ∷ [])) ≡ true
unfolding is_consistent is_segment
below_next = refl

not_below_next : is_consistent (list 1 (one ∷ [])) ≡ false
unfolding is_consistent is_segment
not_below_next = refl

twice : is_consistent (list 2 (one ∷ one ∷ [])) ≡ false
unfolding is_consistent is_segment
twice = refl

-- more living documents than documents, and 2^31 documents

more_living : is_segment 2 (record { id = 1; num_docs = 2; num_living = 3; files = [] }) ≡ false
unfolding is_segment
more_living = refl

too_many : is_segment 2 (record { id = 1; num_docs = 2147483648; num_living = 0; files = [] }) ≡ false
unfolding is_segment
too_many = refl

-- files out of order, and in order

abbrev file : SegmentComponent → FileMeta
file c = record { component = c; len = 0; digest = Blocks [] }

out_of_order : is_segment 2 (record { id = 1; num_docs = 3; num_living = 2; files = file (Alive 1) ∷ file Terms ∷ [] }) ≡ false
unfolding is_segment
out_of_order = refl

in_order : is_segment 2 (record { id = 1; num_docs = 3; num_living = 2; files = file Terms ∷ file (Alive 1) ∷ [] }) ≡ true
unfolding is_segment
in_order = refl

-- stored documents come after living documents

store_first : is_segment 2 (record { id = 1; num_docs = 3; num_living = 2; files = file Store ∷ file (Alive 1) ∷ [] }) ≡ false
unfolding is_segment
store_first = refl

store_last : is_segment 2 (record { id = 1; num_docs = 3; num_living = 2; files = file Terms ∷ file (Alive 1) ∷ file Store ∷ [] }) ≡ true
unfolding is_segment
store_last = refl

-- what a list of segment 1 with terms and living documents of generation 1 leaves to `collect`

abbrev listed_1 : MetaState
listed_1 = list 2 (record { id = 1; num_docs = 3; num_living = 2; files = file Terms ∷ file (Alive 1) ∷ [] } ∷ [])

keeps_alive : is_garbage listed_1 (Segment 1 (Alive 1)) ≡ false
keeps_alive = refl

takes_old_alive : is_garbage listed_1 (Segment 1 (Alive 0)) ≡ true
takes_old_alive = refl

takes_counts : is_garbage listed_1 (Segment 1 Counts) ≡ true
takes_counts = refl

takes_store : is_garbage listed_1 (Segment 1 Store) ≡ true
takes_store = refl

keeps_meta : is_garbage listed_1 Meta ≡ false
keeps_meta = refl

takes_new_meta : is_garbage listed_1 NewMeta ≡ true
takes_new_meta = refl
