-- The format of a `meta` file of version 2 or 3, which lists the segments of an index and their files. New lists are of version 3.
use Rattle.std.specs.Prelude.{◌≡◌, ℕ, zero, suc, ◌+◌, ◌-◌, ◌^◌, ◌<◌, ◌==◌, not, Bool, true, ◌&&◌, ◌||◌, List, [], ◌∷◌, ◌++◌, map, length, take, drop, bytes_eq, nat_lt, nat_le, Result, Ok, Err, if◌then◌else◌}
use Rattle.std.specs.List.{flat_map, list_all, list_any, sum_by, AllByRecursion}
use Rattle.std.specs.Int.{Width, w16, w32, w64, byte_len, from_le_bytes, to_le_bytes}
use Rattle.sha2.specs.Sha256.{sha256}
use Rattle.ii_store.specs.declared.faults.IndexFault.{IndexFault}
use Rattle.ii_store.specs.declared.faults.IndexFault.TheVariants.{OtherVersion, DamagedMeta}
use Rattle.ii_store.specs.declared.file_digest.FileDigest.{FileDigest}
use Rattle.ii_store.specs.declared.file_digest.FileDigest.TheVariants.{Sha256, LongBlocks, Blocks}
use Rattle.ii_store.specs.declared.index_meta.FileMeta.{FileMeta}
use Rattle.ii_store.specs.declared.index_meta.IndexMeta.{IndexMeta}
use Rattle.ii_store.specs.declared.index_meta.SegmentMeta.{SegmentMeta}
use Rattle.ii_directory.specs.declared.name.SegmentComponent.{SegmentComponent}
use Rattle.ii_directory.specs.declared.name.SegmentComponent.TheVariants.{Alive, BlockTables, Counts, FieldNorms, Positions, Postings, Store, Terms}
use Rattle.ii_store.specs.FileDigest.{blocks_digest, digest_items, digest_kind}
use Rattle.ii_store.specs.Index.{◌>>=◌, format, version_in}
use Rattle.ii_directory.specs.Names.{component_generation, component_number}

-- a segment, independent of memory
pub record SegmentState : Type 0 where
  pub id : ℕ
  pub num_docs : ℕ
  pub num_living : ℕ
  pub files : List FileMeta

-- a list of segments, independent of memory
pub record MetaState : Type 0 where
  pub generation : ℕ
  pub next_segment_id : ℕ
  pub schema : List ℕ
  pub segments : List SegmentState

-- the model of a segment in memory
abbrev pub segment_view : SegmentMeta → SegmentState
segment_view s = record { id = s.id; num_docs = s.num_docs; num_living = s.num_living; files = s.files.items }

-- the model of a list of segments in memory
abbrev pub meta_view : IndexMeta → MetaState
meta_view m = record {
  generation = m.generation;
  next_segment_id = m.next_segment_id;
  schema = m.schema.items;
  segments = map segment_view m.segments.items;
}

-- what a new list says of a file with these bytes
abbrev pub file_meta : SegmentComponent → List ℕ → FileMeta
file_meta component bytes = record { component = component; len = length bytes; digest = Blocks (blocks_digest 4096 bytes) }

-- a digest in a list of a version: its kind (1), which isn't there in version 2, and its bytes (32)
unfoldable pub digest_bytes : ℕ → FileDigest → List ℕ
digest_bytes version d = if version == 2 then digest_items d else digest_kind d ∷ digest_items d

-- a file before its digest: number of its component (2), generation (8), length (8)
unfoldable pub file_head : FileMeta → List ℕ
file_head f = to_le_bytes w16 (component_number f.component) ++ to_le_bytes w64 (component_generation f.component) ++ to_le_bytes w64 f.len

-- a file in a list of a version
unfoldable pub file_bytes : ℕ → FileMeta → List ℕ
file_bytes version f = file_head f ++ digest_bytes version f.digest

-- a segment before its files: id (8), documents (4), living documents (4), number of files (2)
unfoldable pub segment_head : SegmentState → List ℕ
segment_head s = to_le_bytes w64 s.id ++ to_le_bytes w32 s.num_docs ++ to_le_bytes w32 s.num_living ++ to_le_bytes w16 (length s.files)

-- a segment and its files
unfoldable pub segment_bytes : ℕ → SegmentState → List ℕ
segment_bytes version s = segment_head s ++ flat_map (file_bytes version) s.files

-- a list before its schema: generation (8), next segment id (8), length of the schema (4)
unfoldable pub list_numbers : MetaState → List ℕ
list_numbers m = to_le_bytes w64 m.generation ++ to_le_bytes w64 m.next_segment_id ++ to_le_bytes w32 (length m.schema)

-- a list before its segments: its numbers, the schema, number of segments (2)
unfoldable pub list_head : MetaState → List ℕ
list_head m = list_numbers m ++ m.schema ++ to_le_bytes w16 (length m.segments)

-- everything between the version and the checksum
unfoldable pub list_bytes : ℕ → MetaState → List ℕ
list_bytes version m = list_head m ++ flat_map (segment_bytes version) m.segments

-- a `meta` file of a version without its checksum
unfoldable pub body_bytes : ℕ → MetaState → List ℕ
body_bytes version m = (format ++ to_le_bytes w32 version) ++ list_bytes version m

-- a `meta` file of a version
unfoldable pub list_file : ℕ → MetaState → List ℕ
list_file version m = body_bytes version m ++ sha256 (body_bytes version m)

-- a `meta` file, as it is written
abbrev pub meta_bytes : MetaState → List ℕ
meta_bytes m = list_file 3 m

-- whether each digest of a list is a SHA-256, as a list of version 2 needs it
abbrev pub has_only_sha256 : MetaState → Bool
has_only_sha256 m = list_all (λ (s : SegmentState). list_all (λ (f : FileMeta). digest_kind f.digest == 0) s.files) m.segments

-- a number at the start of the bytes, and the bytes after it
unfoldable pub number_at : Width → List ℕ → Result (ℕ × List ℕ) IndexFault
number_at w bytes =
    if nat_lt (length bytes) (byte_len w) then Err DamagedMeta
    else Ok (from_le_bytes w (take (byte_len w) bytes), drop (byte_len w) bytes)

-- this many bytes, and the bytes after them
unfoldable pub bytes_at : ℕ → List ℕ → Result (List ℕ × List ℕ) IndexFault
bytes_at count bytes = if nat_lt (length bytes) count then Err DamagedMeta else Ok (take count bytes, drop count bytes)

-- a byte at the start of the bytes, and the bytes after it
abbrev pub byte_at : List ℕ → Result (ℕ × List ℕ) IndexFault
byte_at [] = Err DamagedMeta
byte_at (byte ∷ bytes) = Ok (byte, bytes)

-- the kind of the next digest in a list of a version, and the bytes after it; in version 2 each is a SHA-256
unfoldable pub digest_kind_at : ℕ → List ℕ → Result (ℕ × List ℕ) IndexFault
digest_kind_at version bytes = if version == 2 then Ok (0, bytes) else byte_at bytes

-- the digest of a kind
unfoldable pub digest_of : ℕ → List ℕ → Result FileDigest IndexFault
digest_of kind digest =
    if kind == 0 then Ok (Sha256 digest)
    else if kind == 1 then Ok (LongBlocks digest)
    else if kind == 2 then Ok (Blocks digest)
    else Err DamagedMeta

-- a digest at the start of the bytes, and the bytes after it
unfoldable pub digest_at : ℕ → List ℕ → Result (FileDigest × List ℕ) IndexFault
digest_at version bytes = do
  kind ← digest_kind_at version bytes
  items ← bytes_at 32 kind.1
  digest ← digest_of kind.0 items.0
  Ok (digest, items.1)

-- the component with a number; only alive files have a generation
unfoldable pub component_of : ℕ → ℕ → Result SegmentComponent IndexFault
component_of number generation =
    if number == 5 then Ok (Alive generation)
    else if not (generation == 0) then Err DamagedMeta
    else if number == 0 then Ok Terms
    else if number == 1 then Ok Postings
    else if number == 2 then Ok Positions
    else if number == 3 then Ok FieldNorms
    else if number == 4 then Ok Counts
    else if number == 6 then Ok Store
    else if number == 7 then Ok BlockTables
    else Err DamagedMeta

-- a file at the start of the bytes, and the bytes after it
unfoldable pub file_at : ℕ → List ℕ → Result (FileMeta × List ℕ) IndexFault
file_at version bytes = do
  number ← number_at w16 bytes
  generation ← number_at w64 number.1
  len ← number_at w64 generation.1
  digest ← digest_at version len.1
  component ← component_of number.0 generation.0
  Ok (record { component = component; len = len.0; digest = digest.0 }, digest.1)

-- a given number of items in sequence, and the bytes after them
unfoldable pub items_at : {A : Type 0} → (List ℕ → Result (A × List ℕ) IndexFault) → ℕ → List ℕ → Result (List A × List ℕ) IndexFault
items_at item_at zero bytes = Ok ([], bytes)
items_at item_at (suc count) bytes = do
  first ← item_at bytes
  others ← items_at item_at count first.1
  Ok (first.0 ∷ others.0, others.1)

-- a segment at the start of the bytes, and the bytes after it
unfoldable pub segment_at : ℕ → List ℕ → Result (SegmentState × List ℕ) IndexFault
segment_at version bytes = do
  id ← number_at w64 bytes
  num_docs ← number_at w32 id.1
  num_living ← number_at w32 num_docs.1
  count ← number_at w16 num_living.1
  files ← items_at (file_at version) count.0 count.1
  Ok (record { id = id.0; num_docs = num_docs.0; num_living = num_living.0; files = files.0 }, files.1)

-- a list of segments, which takes all of the bytes
unfoldable pub list_at : ℕ → List ℕ → Result MetaState IndexFault
list_at version bytes = do
  generation ← number_at w64 bytes
  next_segment_id ← number_at w64 generation.1
  len ← number_at w32 next_segment_id.1
  schema ← bytes_at len.0 len.1
  count ← number_at w16 schema.1
  segments ← items_at (segment_at version) count.0 count.1
  if not (length segments.1 == 0) then Err DamagedMeta else Ok (record { generation = generation.0; next_segment_id = next_segment_id.0; schema = schema.0; segments = segments.0 })

-- whether the numbers of the components ascend from the least one, so that none occurs twice
abbrev pub ascend_from : ℕ → List FileMeta → Bool
ascend_from least [] = true
ascend_from least (f ∷ fs) = nat_le least (component_number f.component) && ascend_from (component_number f.component + 1) fs

-- whether a segment's id is below the next one, and its documents are fewer than 2^31 and as many as are alive, or more
unfoldable pub is_segment : ℕ → SegmentState → Bool
is_segment next s = nat_lt s.id next && nat_le s.num_living s.num_docs && nat_lt s.num_docs 2147483648 && ascend_from 0 s.files

-- whether no two segments have the same id
abbrev pub ids_differ : List SegmentState → Bool
ids_differ [] = true
ids_differ (s ∷ ss) = not (list_any (λ (t : SegmentState). t.id == s.id) ss) && ids_differ ss

-- how many documents of the segments are alive
abbrev pub total_living : List SegmentState → ℕ
total_living ss = sum_by (λ (s : SegmentState). s.num_living) ss

-- whether each segment is one, their ids differ, and fewer than 2^31 documents are alive
unfoldable pub is_consistent : MetaState → Bool
is_consistent m = list_all (is_segment m.next_segment_id) m.segments && ids_differ m.segments && nat_lt (total_living m.segments) 2147483648

-- whether a `meta` file of a version lists segments
abbrev pub is_list_version : ℕ → Bool
is_list_version version = version == 2 || version == 3

-- the list of segments of a file of a version
unfoldable pub checked_list : ℕ → List ℕ → Result MetaState IndexFault
checked_list version bytes =
    if nat_lt (length bytes) 44 then Err DamagedMeta
    else if not (bytes_eq (drop (length bytes - 32) bytes) (sha256 (take (length bytes - 32) bytes))) then Err DamagedMeta
    else do
      m ← list_at version (drop 12 (take (length bytes - 32) bytes))
      if is_consistent m then Ok m else Err DamagedMeta

-- the list of segments of a valid `meta` file
unfoldable pub meta_of : List ℕ → Result MetaState IndexFault
meta_of bytes = do
  version ← version_in bytes
  if not (is_list_version version) then Err (OtherVersion version) else checked_list version bytes

-- The numbers of a file have their widths.
pub record FileFits (f : FileMeta) : Type 0 where
  pub generation : component_generation f.component < 2 ^ 64
  pub len : f.len < 2 ^ 64
  pub digest : length (digest_items f.digest) ≡ 32

-- The numbers of a segment have their widths.
pub record SegmentFits (s : SegmentState) : Type 0 where
  pub id : s.id < 2 ^ 64
  pub num_docs : s.num_docs < 2 ^ 32
  pub num_living : s.num_living < 2 ^ 32
  pub count : length s.files < 2 ^ 16
  pub files : AllByRecursion FileFits s.files

-- The numbers of a list have their widths.
pub record MetaFits (m : MetaState) : Type 0 where
  pub generation : m.generation < 2 ^ 64
  pub next_segment_id : m.next_segment_id < 2 ^ 64
  pub schema : length m.schema < 2 ^ 32
  pub count : length m.segments < 2 ^ 16
  pub segments : AllByRecursion SegmentFits m.segments

-- A list that a `meta` file can hold.
pub record IsValidMeta (m : MetaState) : Type 0 where
  pub fits : MetaFits m
  pub consistent : is_consistent m ≡ true
