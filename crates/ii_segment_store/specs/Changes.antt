-- What an index holds after documents were deleted, and how its list of segments changes.
use Rattle.std.specs.Prelude.{◌≡◌, ◌≢◌, ◌⊎◌, ℕ, ◌+◌, ◌<◌, ◌≤◌, ◌^◌, ◌==◌, ◌&&◌, ⊤, max, not, Bool, false, is_some, nat_lt, List, [], ◌∷◌, ◌++◌, drop, filter, get_or, length, slice_get, slice_set, Option, Some, None, Result, Ok, Err, if◌then◌else◌}
use Rattle.ii_alive.specs.Alive.{num_living}
use Rattle.ii_alive.specs.AliveBytes.{alive_bytes}
use Rattle.ii_store.specs.declared.faults.IndexFault.{IndexFault}
use Rattle.ii_store.specs.declared.faults.StoreFault.{StoreFault}
use Rattle.ii_store.specs.declared.faults.StoreFault.TheVariants as stores
use Rattle.ii_store.specs.declared.index_meta.FileMeta.{FileMeta}
use Rattle.ii_directory.specs.declared.name.Name.{Name}
use Rattle.ii_directory.specs.declared.name.Name.TheVariants.{Meta, Segment}
use Rattle.ii_directory.specs.declared.name.SegmentComponent.TheVariants.{Alive, Counts}
use Rattle.ii_directory.specs.Directory.{Files}
use Rattle.ii_store.specs.Index.{Fails}
use Rattle.ii_store.specs.IndexMeta.{IsValidMeta, MetaState, SegmentState, file_meta}
use Rattle.ii_directory.specs.Names.{component_generation, component_number}
use Rattle.ii_store.specs.Segments.{list_in}
use Rattle.ii_segment_store.specs.declared.faults.CommitFault.{CommitFault}
use Rattle.ii_segment_store.specs.declared.faults.CommitFault.TheVariants as faults
use Rattle.ii_segment_store.specs.Commits.{next_list}
use Rattle.ii_segment_store.specs.Contents.{IndexContents, SegmentContents, file_of, flags_in, segment_in, with_segment}

-- the flags of documents, after some of them were deleted
abbrev pub without : List ℕ → List Bool → List Bool
without [] alive = alive
without (doc ∷ docs) alive = without docs (slice_set alive doc false)

-- a segment, after some of its documents were deleted
abbrev pub segment_without : List ℕ → SegmentContents → SegmentContents
segment_without docs s = record s { alive = without docs s.alive }

-- segments, after documents were deleted: the first documents are those of the first segment
abbrev pub segments_without : List (List ℕ) → List SegmentContents → List SegmentContents
segments_without deleted [] = []
segments_without deleted (s ∷ ss) = segment_without (get_or deleted 0 []) s ∷ segments_without (drop 1 deleted) ss

-- an index, after documents of its segments were deleted
abbrev pub index_without : List (List ℕ) → Result IndexContents IndexFault → Result IndexContents IndexFault
index_without deleted (Ok c) = Ok (record { schema = c.schema; segments = segments_without deleted c.segments })
index_without deleted (Err fault) = Err fault

-- an index, with a segment more if there is one
abbrev pub with_added : Option SegmentContents → Result IndexContents IndexFault → Result IndexContents IndexFault
with_added None index = index
with_added (Some s) index = with_segment s index

-- an index, after documents were deleted and then a segment was added, if there is one
abbrev pub changed_index : List (List ℕ) → Option SegmentContents → Result IndexContents IndexFault → Result IndexContents IndexFault
changed_index deleted added index = with_added added (index_without deleted index)

-- the greatest generation of files, 0 for none
abbrev pub latest_file : List FileMeta → ℕ
latest_file [] = 0
latest_file (f ∷ fs) = max (component_generation f.component) (latest_file fs)

-- the greatest generation of the files of segments, 0 for none
abbrev pub latest_generation : List SegmentState → ℕ
latest_generation [] = 0
latest_generation (s ∷ ss) = max (latest_file s.files) (latest_generation ss)

-- a segment after deletes, or why it isn't read
abbrev pub result_without : List ℕ → Result SegmentContents IndexFault → Result SegmentContents IndexFault
result_without docs (Ok s) = Ok (segment_without docs s)
result_without docs (Err fault) = Err fault

-- only flags of a generation were changed
abbrev pub KeepsButFlags : ℕ → Files → Files → Type 0
KeepsButFlags generation old new = (name : Name) → ((id : ℕ) → name ≡ Segment id (Alive generation) → ⊥) → new name ≡ old name

-- only flags of later generations were changed
abbrev pub KeepsOlder : ℕ → Files → Files → Type 0
KeepsOlder generation old new = (name : Name) → ((id g : ℕ) → generation < g → name ≡ Segment id (Alive g) → ⊥) → new name ≡ old name

-- the files of a segment with other flags, in the order of their components
abbrev pub files_with_flags : FileMeta → List FileMeta → List FileMeta
files_with_flags flags files = filter (λ (f : FileMeta). nat_lt (component_number f.component) 5) files ++ flags ∷ filter (λ (f : FileMeta). nat_lt 5 (component_number f.component)) files

-- a segment with new flags, in a file of a generation
abbrev pub with_flags : SegmentState → ℕ → List Bool → SegmentState
with_flags s generation alive = record {
  id = s.id;
  num_docs = s.num_docs;
  num_living = num_living alive;
  files = files_with_flags (file_meta (Alive generation) (alive_bytes alive)) s.files;
}

-- whether documents of a segment are deleted although it has no counts
abbrev pub is_uncounted : List ℕ → SegmentState → Bool
is_uncounted docs s = not (length docs == 0) && not (is_some (file_of Counts s.files))

-- the first segment without counts whose documents are deleted
abbrev pub first_uncounted : List (List ℕ) → List SegmentState → Option ℕ
first_uncounted deleted [] = None
first_uncounted deleted (s ∷ ss) = if is_uncounted (get_or deleted 0 []) s then Some s.id else first_uncounted (drop 1 deleted) ss

-- The flags of a segment whose documents are deleted don't open.
pub record IsFlagsRefusal (fault : IndexFault) (deleted : List (List ℕ)) (ss : List SegmentState) (files : Files) : Type 0 where
  pub place : ℕ
  pub segment : SegmentState
  pub found : slice_get ss place ≡ Some segment
  pub some : get_or deleted place [] ≢ []
  pub fails : flags_in segment files ≡ Err fault

-- Why flags aren't changed: those of a segment don't open, unless a directory call or an allocation failed.
abbrev pub IsFlagsFault : StoreFault → List (List ℕ) → List SegmentState → Files → Type 0
IsFlagsFault (stores.Directory fault) deleted ss files = ⊤
IsFlagsFault (stores.Index fault) deleted ss files = IsFlagsRefusal fault deleted ss files

-- Nothing of a segment is deleted, or its flags are in a file of a generation.
abbrev pub IsFlagged : List ℕ → ℕ → SegmentState → SegmentState → Files → Type 0
IsFlagged docs generation s t files = ((docs ≡ []) × (t ≡ s)) ⊎ ((alive : List Bool) × (flags_in s files ≡ Ok alive) × (t ≡ with_flags s generation (without docs alive)))

-- Segments at the start of a list were changed, each with flags of a later generation than any of the list.
abbrev pub AreFlagged : List (List ℕ) → ℕ → List SegmentState → List SegmentState → Files → Type 0
AreFlagged deleted latest ss ts files = (place : ℕ) (d : SegmentState) → place < length ts → IsFlagged (get_or deleted place []) (latest + 1 + place) (get_or ss place d) (get_or ts place d) files

-- All segments of a list were changed, and nothing else of it.
pub record IsFlaggedList (deleted : List (List ℕ)) (m n : MetaState) (files : Files) : Type 0 where
  pub generation : n.generation ≡ m.generation
  pub next_segment_id : n.next_segment_id ≡ m.next_segment_id
  pub schema : n.schema ≡ m.schema
  pub many : length n.segments ≡ length m.segments
  pub segments : AreFlagged deleted (latest_generation m.segments) m.segments n.segments files

-- the next list, with a segment more if there is one
abbrev pub list_after : Option SegmentContents → MetaState → MetaState
list_after None m = record m { generation = m.generation + 1 }
list_after (Some s) m = next_list m s

-- There are no more generations, or no `meta` holds the next list.
abbrev pub IsTooMuch : List (List ℕ) → Option SegmentContents → MetaState → Files → Type 0
IsTooMuch deleted added m files = (2 ^ 64 ≤ latest_generation m.segments + length m.segments) ⊎ ((n : MetaState) × IsFlaggedList deleted m n files × (IsValidMeta (list_after added n) → ⊥))

-- Why documents aren't deleted, or a segment isn't added.
abbrev pub IsChangeFault : CommitFault → List (List ℕ) → Option SegmentContents → Files → Type 0
IsChangeFault (faults.Store fault) deleted added files = Fails fault (list_in (files Meta)) ⊎ ((m : MetaState) × (list_in (files Meta) ≡ Ok m) × IsFlagsFault fault deleted m.segments files)
IsChangeFault (faults.NoCounts id) deleted added files = (m : MetaState) × (list_in (files Meta) ≡ Ok m) × (first_uncounted deleted m.segments ≡ Some id)
IsChangeFault faults.TooMany deleted added files = (m : MetaState) × (list_in (files Meta) ≡ Ok m) × IsTooMuch deleted added m files

-- Segments at the start of a list were changed, and are read so.
pub record AreChanged (deleted : List (List ℕ)) (latest : ℕ) (ss ts : List SegmentState) (old new : Files) : Type 0 where
  pub each : (place : ℕ) (d : SegmentState) → place < length ts → segment_in (get_or ts place d) new ≡ result_without (get_or deleted place []) (segment_in (get_or ss place d) old)
  pub flagged : AreFlagged deleted latest ss ts old
  pub keeps : KeepsOlder latest old new

-- A segment was changed, and is read so; only a file of this generation was written.
pub record IsChangedTo (docs : List ℕ) (generation : ℕ) (s t : SegmentState) (old new : Files) : Type 0 where
  pub read : segment_in t new ≡ result_without docs (segment_in s old)
  pub flagged : IsFlagged docs generation s t old
  pub keeps : KeepsButFlags generation old new

-- Why the flags of a segment aren't changed: they don't open, unless a directory call or an allocation failed.
abbrev pub FailsForFlags : StoreFault → List ℕ → SegmentState → Files → Type 0
FailsForFlags (stores.Directory fault) docs s files = ⊤
FailsForFlags (stores.Index fault) docs s files = (docs ≢ []) × (flags_in s files ≡ Err fault)

-- Why documents aren't deleted from a list.
abbrev pub IsDeleteFault : CommitFault → List (List ℕ) → MetaState → Files → Type 0
IsDeleteFault (faults.Store fault) deleted m files = IsFlagsFault fault deleted m.segments files
IsDeleteFault (faults.NoCounts id) deleted m files = ⊥
IsDeleteFault faults.TooMany deleted m files = 2 ^ 64 ≤ latest_generation m.segments + length m.segments

-- A directory call or an allocation failed.
abbrev pub OfDirectory : StoreFault → Type 0
OfDirectory (stores.Directory fault) = ⊤
OfDirectory (stores.Index fault) = ⊥

-- Why a list isn't put in the place of the current one.
abbrev pub IsListFault : CommitFault → MetaState → Type 0
IsListFault (faults.Store fault) m = OfDirectory fault
IsListFault (faults.NoCounts id) m = ⊥
IsListFault faults.TooMany m = IsValidMeta (list_after None m) → ⊥
