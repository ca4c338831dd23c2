-- What an index in a folder holds, of any version: its schema, the bytes of its segments, and which documents are alive.
use Rattle.std.specs.Prelude.{ℕ, ◌==◌, Bool, true, List, [], ◌∷◌, ◌++◌, map, replicate, Option, None, Some, Result, Ok, Err, if◌then◌else◌}
use Rattle.std.specs.List.{find}
use Rattle.std.specs.Option.{option_map}
use Rattle.ii_alive.specs.Alive.{num_living}
use Rattle.ii_alive.specs.AliveBytes.{alive_of}
use Rattle.ii_store.specs.declared.faults.IndexFault.{IndexFault}
use Rattle.ii_store.specs.declared.faults.IndexFault.TheVariants.{DeletedDocuments, MissingFile, NoIndex}
use Rattle.ii_store.specs.declared.index_meta.FileMeta.{FileMeta}
use Rattle.ii_directory.specs.declared.name.Name.TheVariants.{Meta, Segment}
use Rattle.ii_directory.specs.declared.name.SegmentComponent.{SegmentComponent}
use Rattle.ii_directory.specs.declared.name.SegmentComponent.TheVariants.{Counts, FieldNorms, Positions, Postings, Store, Terms}
use Rattle.ii_directory.specs.Directory.{Files}
use Rattle.ii_store.specs.Index.{◌>>=◌, Index, index_of, version_in}
use Rattle.ii_store.specs.IndexMeta.{MetaState, SegmentState, meta_of}
use Rattle.ii_directory.specs.Names.{component_number, same_component}
use Rattle.ii_store.specs.Segments.{listed_bytes}
use Rattle.ii_segment_store.specs.declared.stored_segments.SegmentFiles.{SegmentFiles}
use Rattle.ii_segment_store.specs.declared.stored_segments.StoredSegment.{StoredSegment}
use Rattle.ii_segment_store.specs.declared.stored_segments.StoredSegments.{StoredSegments}

-- the number of documents of a segment, the bytes of its files, and whether each of its documents is alive
pub record SegmentContents : Type 0 where
  pub num_docs : ℕ
  pub terms : List ℕ
  pub postings : List ℕ
  pub positions : List ℕ
  pub fieldnorms : List ℕ
  pub counts : Option (List ℕ)
  pub store : Option (List ℕ)
  pub alive : List Bool

-- the schema of an index, and its segments in the order of their documents
pub record IndexContents : Type 0 where
  pub schema : List ℕ
  pub segments : List SegmentContents

-- the contents of files, with these flags of their documents
abbrev pub contents_with : SegmentFiles → List Bool → SegmentContents
contents_with f alive = record {
  num_docs = f.num_docs;
  terms = f.terms.items;
  postings = f.postings.items;
  positions = f.positions.items;
  fieldnorms = f.fieldnorms.items;
  counts = option_map (λ v. v.items) f.counts;
  store = option_map (λ v. v.items) f.store;
  alive = alive;
}

-- the contents of files, all of whose documents are alive
abbrev pub files_contents : SegmentFiles → SegmentContents
files_contents f = contents_with f (replicate f.num_docs true)

-- the model of a segment in memory
abbrev pub segment_contents : StoredSegment → SegmentContents
segment_contents s = contents_with s.files s.alive

-- the model of all segments in memory
abbrev pub contents_view : StoredSegments → IndexContents
contents_view s = record { schema = s.schema.items; segments = map segment_contents s.segments.items }

-- the file of a component in a list of files
abbrev pub file_of : SegmentComponent → List FileMeta → Option FileMeta
file_of component files = find (λ (f : FileMeta). same_component f.component component) files

-- the bytes of a segment's file, which may not be listed
unfoldable pub bytes_of_component : ℕ → SegmentComponent → Option FileMeta → Files → Result (List ℕ) IndexFault
bytes_of_component id component None files = Err (MissingFile id component)
bytes_of_component id component (Some f) files = listed_bytes (record { id = id; file = f }) (files (Segment id f.component))

-- the bytes of a segment's file of a component, or its fault
abbrev pub component_bytes : SegmentState → SegmentComponent → Files → Result (List ℕ) IndexFault
component_bytes s component files = bytes_of_component s.id component (file_of component s.files) files

-- the bytes of a segment's file, if it is listed
unfoldable pub bytes_if_listed : ℕ → Option FileMeta → Files → Result (Option (List ℕ)) IndexFault
bytes_if_listed id None files = Ok None
bytes_if_listed id (Some f) files = do
  bytes ← listed_bytes (record { id = id; file = f }) (files (Segment id f.component))
  Ok (Some bytes)

-- the bytes of a segment's file of a component, if it is listed
abbrev pub optional_bytes : SegmentState → SegmentComponent → Files → Result (Option (List ℕ)) IndexFault
optional_bytes s component files = bytes_if_listed s.id (file_of component s.files) files

-- the file of flags in a list of files, of whatever generation
abbrev pub alive_file : List FileMeta → Option FileMeta
alive_file files = find (λ (f : FileMeta). component_number f.component == 5) files

-- flags that have as many living documents as a segment
abbrev pub fitting_flags : SegmentState → Option (List Bool) → Result (List Bool) IndexFault
fitting_flags s None = Err (DeletedDocuments s.id)
fitting_flags s (Some alive) = if num_living alive == s.num_living then Ok alive else Err (DeletedDocuments s.id)

-- the flags in a segment's file of flags, or those of documents that are all alive
unfoldable pub flags_with : SegmentState → Option FileMeta → Files → Result (List Bool) IndexFault
flags_with s None files = fitting_flags s (Some (replicate s.num_docs true))
flags_with s (Some f) files = do
  bytes ← listed_bytes (record { id = s.id; file = f }) (files (Segment s.id f.component))
  fitting_flags s (alive_of s.num_docs bytes)

-- whether each document of a segment is alive, or why that isn't known
abbrev pub flags_in : SegmentState → Files → Result (List Bool) IndexFault
flags_in s files = flags_with s (alive_file s.files) files

-- what a segment holds but for its stored documents and its flags, or the first fault
unfoldable pub loaded_in : SegmentState → Files → Result SegmentContents IndexFault
loaded_in s files = do
  terms ← component_bytes s Terms files
  postings ← component_bytes s Postings files
  positions ← component_bytes s Positions files
  fieldnorms ← component_bytes s FieldNorms files
  counts ← optional_bytes s Counts files
  Ok (record { num_docs = s.num_docs; terms = terms; postings = postings; positions = positions; fieldnorms = fieldnorms; counts = counts; store = None; alive = replicate s.num_docs true })

-- what a segment holds, or the first fault
unfoldable pub segment_in : SegmentState → Files → Result SegmentContents IndexFault
segment_in s files = do
  loaded ← loaded_in s files
  store ← optional_bytes s Store files
  alive ← flags_in s files
  Ok (record loaded { store = store; alive = alive })

-- what each of some segments gives, in their order, or the first fault
unfoldable pub all_of : {X : Type 0} → (SegmentState → Files → Result X IndexFault) → List SegmentState → Files → Result (List X) IndexFault
all_of of_one [] files = Ok []
all_of of_one (s ∷ ss) files = do
  first ← of_one s files
  others ← all_of of_one ss files
  Ok (first ∷ others)

-- what segments hold, or the first fault
abbrev pub all_contents : List SegmentState → Files → Result (List SegmentContents) IndexFault
all_contents ss files = all_of segment_in ss files

-- what the segments of a list hold, with its schema
unfoldable pub list_contents : MetaState → Files → Result IndexContents IndexFault
list_contents m files = do
  segments ← all_contents m.segments files
  Ok (record { schema = m.schema; segments = segments })

-- the segment of an index of version 1, without counts and stored documents
abbrev pub only_segment : Index → SegmentContents
only_segment i = record { num_docs = i.num_docs; terms = i.terms; postings = i.postings; positions = i.positions; fieldnorms = i.fieldnorms; counts = None; store = None; alive = replicate i.num_docs true }

-- an index of version 1, as one segment
abbrev pub one_segment : Index → IndexContents
one_segment i = record { schema = i.schema; segments = only_segment i ∷ [] }

-- a segment as an index of its own, with a schema
abbrev pub as_index : List ℕ → SegmentContents → Index
as_index schema s = record { num_docs = s.num_docs; schema = schema; terms = s.terms; postings = s.postings; positions = s.positions; fieldnorms = s.fieldnorms }

-- what the index of a `meta` file holds, of any version
unfoldable pub contents_at : List ℕ → Files → Result IndexContents IndexFault
contents_at meta files = do
  version ← version_in meta
  if version == 1 then (index_of files >>= λ i. Ok (one_segment i)) else (meta_of meta >>= λ m. list_contents m files)

-- what the index of a `meta` file holds, if there is one
unfoldable pub contents_in : Option (List ℕ) → Files → Result IndexContents IndexFault
contents_in None files = Err NoIndex
contents_in (Some meta) files = contents_at meta files

-- what the index in the files of a folder holds, or the first fault
unfoldable pub index_contents : Files → Result IndexContents IndexFault
index_contents files = contents_in (files Meta) files

-- an index with one segment more, at its end
abbrev pub with_segment : SegmentContents → Result IndexContents IndexFault → Result IndexContents IndexFault
with_segment s (Ok c) = Ok (record { schema = c.schema; segments = c.segments ++ s ∷ [] })
with_segment s (Err fault) = Err fault
