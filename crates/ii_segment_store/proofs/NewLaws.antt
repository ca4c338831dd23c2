-- The files of a segment get their names one after the other.
use Rattle.std.proofs.Common.{◌≡◌, ◌∙◌, ℕ, List, [], ◌∷◌, ◌++◌, Option, None, Some, ap}
use Rattle.ii_directory.specs.declared.name.Name.{Name}
use Rattle.ii_directory.specs.declared.name.Name.TheVariants.{Segment}
use Rattle.ii_directory.specs.declared.name.SegmentComponent.{SegmentComponent}
use Rattle.ii_directory.specs.declared.name.SegmentComponent.TheVariants.{BlockTables, Counts, Store}
use Rattle.ii_directory.specs.Directory.{Elapses, Elsewhere, Files, IsOther}
use Rattle.ii_directory.proofs.Elapsing.{elapses_then}
use Rattle.ii_store.specs.declared.index_meta.FileMeta.{FileMeta}
use Rattle.ii_store.specs.IndexMeta.{file_meta}
use Rattle.ii_segment_store.specs.BlockTables.{file_table, segment_tables, table_if}
use Rattle.ii_segment_store.specs.Commits.{HasFileIf, KeepsButSegment, listed_if, listed_segment}
use Rattle.ii_segment_store.specs.Contents.{SegmentContents}
use Rattle.ii_segment_store.specs.NewSegments.{listed_lists}

-- one file of a segment was changed
pub elsewhere_keeps : (id : ℕ) (component : SegmentComponent) (old new : Files) → Elsewhere (Segment id component) old new → KeepsButSegment id old new
elsewhere_keeps id component old new same name other = same name (λ is. other component is)

-- one change after another
pub keeps_then : (id : ℕ) (old mid new : Files) → KeepsButSegment id old mid → KeepsButSegment id mid new → KeepsButSegment id old new
keeps_then id old mid new one two name other = two name other ∙ one name other

module _ {D : Type 0} (moment : D → ℕ) (left_since : D → ℕ → Files → Type 0) (seen : D → Files) where
  -- what a stop leaves of one more file
  pub one_more : (id : ℕ) (component : SegmentComponent) (old mid new : D) → KeepsButSegment id (seen old) (seen mid)
      → Elapses (moment old) (moment mid) (left_since old) (left_since mid) (KeepsButSegment id (seen old)) → Elapses (moment mid) (moment new) (left_since mid) (left_since new) (Elsewhere (Segment id component) (seen mid))
      → Elapses (moment old) (moment new) (left_since old) (left_since new) (KeepsButSegment id (seen old))
  one_more id component old mid new kept one two =
      elapses_then moment left_since old mid new (KeepsButSegment id (seen old)) (Elsewhere (Segment id component) (seen mid)) one two (λ f left. keeps_then id (seen old) (seen mid) f kept (elsewhere_keeps id component (seen mid) f left))

-- a file that a segment may not have is left as it is
pub file_if_kept : (id : ℕ) (component : SegmentComponent) (other : Name) (found : Option (List ℕ)) (old new : Files) → Elsewhere other old new → IsOther other (Segment id component) → HasFileIf id component found old → HasFileIf id component found new
file_if_kept id component other None old new same differ there = tt
file_if_kept id component other (Some bytes) old new same differ there = same (Segment id component) differ ∙ there

-- the tables of all files
pub tables_are : (s : SegmentContents) (lists counted stored : List ℕ) → lists ≡ file_table s.terms ++ file_table s.postings ++ file_table s.positions ++ file_table s.fieldnorms → counted ≡ lists ++ table_if s.counts
    → stored ≡ counted ++ table_if s.store → stored ≡ segment_tables s
unfolding segment_tables
tables_are s lists counted stored one two three = three ∙ ap (λ (xs : List ℕ). xs ++ table_if s.store) (two ∙ ap (λ (xs : List ℕ). xs ++ table_if s.counts) one)

-- all files, as `meta` lists them
pub files_are : (id : ℕ) (s : SegmentContents) (tables : List ℕ) (lists counted stored all : List FileMeta) → lists ≡ listed_lists s.terms s.postings s.positions s.fieldnorms → counted ≡ lists ++ listed_if Counts s.counts
    → stored ≡ counted ++ listed_if Store s.store → all ≡ stored ++ file_meta BlockTables tables ∷ [] → tables ≡ segment_tables s → all ≡ (listed_segment id s).files
files_are id s tables lists counted stored all one two three four same =
    four
    ∙ ap (λ (xs : List FileMeta). xs ++ file_meta BlockTables tables ∷ [])
    (three ∙ ap (λ (xs : List FileMeta). xs ++ listed_if Store s.store) (two ∙ ap (λ (xs : List FileMeta). xs ++ listed_if Counts s.counts) one))
    ∙ ap (λ (xs : List ℕ). listed_lists s.terms s.postings s.positions s.fieldnorms ++ listed_if Counts s.counts ++ listed_if Store s.store ++ file_meta BlockTables xs ∷ []) same
