-- A file of a segment that is open with its table.
use Rattle.std.specs.Prelude.{ℕ, ◌+◌, ◌*◌, ◌==◌, not, ◌&&◌, Bool, List, Option, None, Some, Result, Ok, Err, drop, length, nat_lt, take, if◌then◌else◌}
use Rattle.std.specs.List.{sum_by}
use Rattle.ii_directory.specs.declared.name.Name.TheVariants.{Segment}
use Rattle.ii_directory.specs.declared.name.SegmentComponent.{SegmentComponent}
use Rattle.ii_directory.specs.declared.name.SegmentComponent.TheVariants.{Alive, BlockTables, Counts, FieldNorms, Positions, Postings, Store, Terms}
use Rattle.ii_directory.specs.Directory.{Files}
use Rattle.ii_directory.specs.Names.{component_number}
use Rattle.ii_store.specs.declared.faults.IndexFault.{IndexFault}
use Rattle.ii_store.specs.declared.faults.IndexFault.TheVariants.{MissingFile, WrongFileChecksum, WrongFileLength}
use Rattle.ii_store.specs.declared.index_meta.FileMeta.{FileMeta}
use Rattle.ii_store.specs.FileDigest.{digest_kind}
use Rattle.ii_store.specs.Index.{◌>>=◌}
use Rattle.ii_store.specs.IndexMeta.{SegmentState}
use Rattle.ii_block_file.specs.BlockTable.{BlockTableState, is_table, num_file_blocks}
use Rattle.ii_segment_store.specs.Contents.{SegmentContents, file_of}

-- the bytes of an open file, if they are known, and its table
pub record OpenFileState : Type 0 where
  pub bytes : Option (List ℕ)
  pub table : BlockTableState

-- whether the file of tables has the table of a listed file: of each with a digest of its blocks, but flags and the tables
abbrev pub has_table : FileMeta → Bool
has_table f = not (component_number f.component == 5) && not (component_number f.component == 7) && (digest_kind f.digest == 2)

-- the length of the table of a listed file, in bytes
abbrev pub table_len : FileMeta → ℕ
table_len f = if has_table f then 8 * num_file_blocks f.len else 0

-- the length of the table of a listed file, if its component comes before another
abbrev pub len_before : SegmentComponent → FileMeta → ℕ
len_before component f = if nat_lt (component_number f.component) (component_number component) then table_len f else 0

-- where the table of a component begins in the file of tables: after those of the components before it
abbrev pub table_start : SegmentComponent → List FileMeta → ℕ
table_start component files = sum_by (len_before component) files

-- where the table of a listed file ends in the file of tables
abbrev pub table_end : FileMeta → List FileMeta → ℕ
table_end f files = table_start f.component files + table_len f

-- the table of a listed file, in the bytes of the file of tables
abbrev pub table_in : FileMeta → List FileMeta → List ℕ → List ℕ
table_in f files tables = take (table_len f) (drop (table_start f.component files) tables)

-- the table of a listed file by the segment's file of tables, or the fault of this one: missing, too short, or with another table than that of the digest in `meta`
unfoldable pub listed_table : SegmentState → FileMeta → Option (List ℕ) → Result BlockTableState IndexFault
listed_table s f None = Err (MissingFile s.id BlockTables)
listed_table s f (Some tables) =
    if nat_lt (length tables) (table_end f s.files) then Err (WrongFileLength s.id BlockTables)
    else if not (is_table f.len f.digest (table_in f s.files tables)) then Err (WrongFileChecksum s.id BlockTables)
    else Ok (record { len = f.len; bytes = table_in f s.files tables })

-- a file that is open with a table, or is missing
unfoldable pub open_with : ℕ → SegmentComponent → BlockTableState → Option (List ℕ) → Result (Option OpenFileState) IndexFault
open_with id component table None = Err (MissingFile id component)
open_with id component table (Some bytes) = Ok (Some (record { bytes = Some bytes; table = table }))

-- a listed file that is open with its table, and none if the segment has no table of it
unfoldable pub open_listed : SegmentState → FileMeta → Option FileMeta → Files → Result (Option OpenFileState) IndexFault
open_listed s f None files = Ok None
open_listed s f (Some tables) files =
    if not (has_table f) then Ok None
    else do
      table ← listed_table s f (files (Segment s.id BlockTables))
      open_with s.id f.component table (files (Segment s.id f.component))

-- the file of a component, if it is listed
unfoldable pub open_found : SegmentState → SegmentComponent → Option FileMeta → Files → Result (Option OpenFileState) IndexFault
open_found s component None files = Err (MissingFile s.id component)
open_found s component (Some f) files = open_listed s f (file_of BlockTables s.files) files

-- a segment's file of a component that is open with its table, none if the segment has no table of it, or the first fault
abbrev pub open_in : SegmentState → SegmentComponent → Files → Result (Option OpenFileState) IndexFault
open_in s component files = open_found s component (file_of component s.files) files

-- the bytes of a segment's file of a component that has a table, if the segment has such a file
abbrev pub component_contents : SegmentContents → SegmentComponent → Option (List ℕ)
component_contents s Terms = Some s.terms
component_contents s Postings = Some s.postings
component_contents s Positions = Some s.positions
component_contents s FieldNorms = Some s.fieldnorms
component_contents s Counts = s.counts
component_contents s Store = s.store
component_contents s (Alive generation) = None
component_contents s BlockTables = None
