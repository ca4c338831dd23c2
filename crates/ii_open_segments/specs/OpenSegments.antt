-- The files of all segments of an index, open to read ranges of them.
use Rattle.std.specs.Prelude.{ℕ, ◌==◌, Bool, List, Option, None, Some, Result, Ok, Err, if◌then◌else◌}
use Rattle.ii_directory.specs.declared.name.Name.TheVariants.{Meta}
use Rattle.ii_directory.specs.declared.name.SegmentComponent.TheVariants.{FieldNorms, Positions, Postings, Terms}
use Rattle.ii_directory.specs.Directory.{Files}
use Rattle.ii_store.specs.declared.faults.IndexFault.{IndexFault}
use Rattle.ii_store.specs.declared.faults.IndexFault.TheVariants.{NoIndex}
use Rattle.ii_store.specs.Index.{◌>>=◌, version_in}
use Rattle.ii_store.specs.IndexMeta.{MetaState, SegmentState, meta_of}
use Rattle.ii_block_file.specs.BlockTable.{block_table_of}
use Rattle.ii_segment_store.specs.Contents.{SegmentContents, all_of, flags_in}
use Rattle.ii_open_segments.specs.OpenFiles.{OpenFileState, open_in}

-- a segment's files that are open, each of which is there if the segment has a table of it, and whether each of its documents is alive
pub record OpenSegmentState : Type 0 where
  pub num_docs : ℕ
  pub terms : Option OpenFileState
  pub postings : Option OpenFileState
  pub positions : Option OpenFileState
  pub fieldnorms : Option OpenFileState
  pub alive : List Bool

-- the schema of an index, and its open segments in the order of their documents
pub record OpenSegmentsState : Type 0 where
  pub schema : List ℕ
  pub segments : List OpenSegmentState

-- a listed segment that is open, or the first fault
unfoldable pub opened_segment : SegmentState → Files → Result OpenSegmentState IndexFault
opened_segment s files = do
  terms ← open_in s Terms files
  postings ← open_in s Postings files
  positions ← open_in s Positions files
  fieldnorms ← open_in s FieldNorms files
  alive ← flags_in s files
  Ok (record { num_docs = s.num_docs; terms = terms; postings = postings; positions = positions; fieldnorms = fieldnorms; alive = alive })

-- the open segments of a list, with its schema
unfoldable pub opened_list : MetaState → Files → Result (Option OpenSegmentsState) IndexFault
opened_list m files = do
  segments ← all_of opened_segment m.segments files
  Ok (Some (record { schema = m.schema; segments = segments }))

-- the open segments of the index of a `meta` file; an index of version 1 has no list of segments
unfoldable pub opened_at : List ℕ → Files → Result (Option OpenSegmentsState) IndexFault
opened_at meta files = do
  version ← version_in meta
  if version == 1 then Ok None else (meta_of meta >>= λ m. opened_list m files)

-- the same, if there is a `meta` file
unfoldable pub opened_in : Option (List ℕ) → Files → Result (Option OpenSegmentsState) IndexFault
opened_in None files = Err NoIndex
opened_in (Some meta) files = opened_at meta files

-- the open segments of the index in the files of a folder, or the first fault
unfoldable pub opened_contents : Files → Result (Option OpenSegmentsState) IndexFault
opened_contents files = opened_in (files Meta) files

-- a file that is open with the table of its bytes
abbrev pub with_table : List ℕ → Option OpenFileState
with_table bytes = Some (record { bytes = Some bytes; table = block_table_of bytes })

-- the open files of a segment that was written, all of whose documents are alive
abbrev pub opened_of : SegmentContents → OpenSegmentState
opened_of s = record {
  num_docs = s.num_docs;
  terms = with_table s.terms;
  postings = with_table s.postings;
  positions = with_table s.positions;
  fieldnorms = with_table s.fieldnorms;
  alive = s.alive;
}
