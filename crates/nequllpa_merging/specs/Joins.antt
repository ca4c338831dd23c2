-- What an index in a folder holds once its last segments are merged.
use Rattle.std.specs.Prelude.{◌≡◌, ℕ, List, Ok, ⊤}
use Rattle.ii_base.specs.Schema.{SchemaEntry}
use Rattle.ii_directory.specs.Directory.{Files, IsRefusal}
use Rattle.ii_store.specs.Faults.{IsRefused}
use Rattle.ii_store.specs.Index.{Fails}
use Rattle.ii_segment_store.specs.Commits.{IsCommitFault, IsRefusedCommit}
use Rattle.ii_segment_store.specs.Contents.{IndexContents, SegmentContents, index_contents, with_segment}
use Rattle.ii_segment_store.specs.Joins.{first_contents, first_list, last_contents}
use Rattle.ii_segments.specs.Segments.{Segment, index_tokens, num_docs_of}
use Rattle.nequllpa_merging.specs.HeldSegments.{HoldSegments}
use Rattle.nequllpa_merging.specs.MergedSegments.{IsMergedFrom, IsMergingFault}
use Rattle.nequllpa_merging.specs.declared.faults.JoinFault.{JoinFault}
use Rattle.nequllpa_merging.specs.declared.faults.JoinFault.TheVariants as faults

-- The files of a folder hold an index of these segments.
pub record HoldsIndex (entries : List SchemaEntry) (files : Files) (ss : List Segment) : Type 0 where
  pub contents : IndexContents
  pub read : index_contents files ≡ Ok contents
  pub hold : HoldSegments entries contents.segments ss

-- The files of a folder hold an index of as many documents, of the same tokens, as that of these segments.
pub record HoldsSameIndex (entries : List SchemaEntry) (files : Files) (ss : List Segment) : Type 0 where
  pub segments : List Segment
  pub holds : HoldsIndex entries files segments
  pub tokens : index_tokens segments ≡ index_tokens ss
  pub num_docs : num_docs_of segments ≡ num_docs_of ss

-- In a folder, one segment that the last ones are merged into is in their place.
pub record IsJoined (entries : List SchemaEntry) (first : ℕ) (old new : Files) : Type 0 where
  pub last : List SegmentContents
  pub read : last_contents first old ≡ Ok last
  pub segment : SegmentContents
  pub merged : IsMergedFrom entries last segment
  pub written : index_contents new ≡ with_segment segment (first_contents first old)

-- Why the last segments of an index aren't merged.
abbrev pub IsJoinFault : JoinFault → List SchemaEntry → ℕ → Files → Type 0
IsJoinFault (faults.Store fault) entries first files = Fails fault (last_contents first files)
IsJoinFault (faults.Merge fault) entries first files = (last : List SegmentContents) × (last_contents first files ≡ Ok last) × IsMergingFault entries last fault
IsJoinFault (faults.Write fault) entries first files = ⊤
IsJoinFault (faults.Commit fault) entries first files = (last : List SegmentContents) × (segment : SegmentContents) × (last_contents first files ≡ Ok last) × IsMergedFrom entries last segment × IsCommitFault fault (first_list first files) segment

-- the system refused a call
abbrev pub IsRefusedJoin : JoinFault → Type 0
IsRefusedJoin (faults.Store fault) = IsRefused fault
IsRefusedJoin (faults.Merge fault) = ⊥
IsRefusedJoin (faults.Write fault) = IsRefusal fault
IsRefusedJoin (faults.Commit fault) = IsRefusedCommit fault
