-- Segments whose files were written piece by piece, and have no names yet.
use Rattle.std.specs.Prelude.{◌≡◌, ℕ, IfSome, List, [], ◌∷◌, length, true, replicate, Option, Some}
use Rattle.std.specs.Option.{option_map}
use Rattle.ii_io.specs.CountingWriter.{CountingWriterState}
use Rattle.ii_directory.specs.declared.name.Name.TheVariants.{Segment}
use Rattle.ii_directory.specs.declared.name.SegmentComponent.TheVariants.{FieldNorms, Positions, Postings, Terms}
use Rattle.ii_directory.specs.Directory.{Files}
use Rattle.ii_store.specs.declared.index_meta.FileMeta.{FileMeta}
use Rattle.ii_store.specs.IndexMeta.{file_meta}
use Rattle.ii_block_file.specs.ListedFile.{bytes_or_none}
use Rattle.ii_segment_store.specs.declared.new_segment.NewSegment.{NewSegment}
use Rattle.ii_segment_store.specs.Contents.{SegmentContents}

-- the bytes of a file that was written
abbrev pub new_file : CountingWriterState → List ℕ
new_file w = bytes_or_none w.contents

-- the bytes of a file that may not have been written
abbrev pub new_file_if : Option CountingWriterState → Option (List ℕ)
new_file_if file = option_map new_file file

-- The bytes of a file are known, and all of them were counted.
pub record IsCounted (w : CountingWriterState) : Type 0 where
  pub known : w.contents ≡ Some (new_file w)
  pub counted : w.written_bytes ≡ length (new_file w)

-- The bytes of the files that each segment has are known.
pub record AreCounted (t p q n : CountingWriterState) : Type 0 where
  pub terms : IsCounted t
  pub postings : IsCounted p
  pub positions : IsCounted q
  pub fieldnorms : IsCounted n

-- The files that each segment has are there.
pub record HasLists (id : ℕ) (t p q n : List ℕ) (files : Files) : Type 0 where
  pub terms : files (Segment id Terms) ≡ Some t
  pub postings : files (Segment id Postings) ≡ Some p
  pub positions : files (Segment id Positions) ≡ Some q
  pub fieldnorms : files (Segment id FieldNorms) ≡ Some n

-- these files, as `meta` lists them
abbrev pub listed_lists : List ℕ → List ℕ → List ℕ → List ℕ → List FileMeta
listed_lists terms postings positions fieldnorms = file_meta Terms terms ∷ file_meta Postings postings ∷ file_meta Positions positions ∷ file_meta FieldNorms fieldnorms ∷ []

-- the contents of a segment of new files
abbrev pub new_contents : {W : Type 0} → NewSegment W → SegmentContents
new_contents s = record {
  num_docs = s.num_docs;
  terms = new_file s.terms;
  postings = new_file s.postings;
  positions = new_file s.positions;
  fieldnorms = new_file s.fieldnorms;
  counts = new_file_if s.counts;
  store = new_file_if s.store;
  alive = replicate s.num_docs true;
}

-- The bytes of all files of a segment are known.
pub record IsWritten {W : Type 0} (s : NewSegment W) : Type 0 where
  pub terms : IsCounted s.terms
  pub postings : IsCounted s.postings
  pub positions : IsCounted s.positions
  pub fieldnorms : IsCounted s.fieldnorms
  pub counts : IfSome s.counts IsCounted
  pub store : IfSome s.store IsCounted
