-- Segments whose files are written, before a list has them.
use Rattle.std.specs.Prelude.{◌≡◌, ℕ, List, Some, ◌+◌, ◌≤◌, ◌^◌, [], ◌∷◌, ◌++◌, Result, Ok, Err}
use Rattle.ii_store.specs.declared.faults.IndexFault.{IndexFault}
use Rattle.ii_directory.specs.Directory.{Files}
use Rattle.ii_directory.specs.declared.name.Name.TheVariants.{Meta}
use Rattle.ii_store.specs.Index.{Fails}
use Rattle.ii_store.specs.IndexMeta.{IsValidMeta, MetaState, SegmentState}
use Rattle.ii_store.specs.Segments.{list_in}
use Rattle.ii_segment_store.specs.declared.faults.CommitFault.{CommitFault}
use Rattle.ii_segment_store.specs.declared.faults.CommitFault.TheVariants as faults
use Rattle.ii_segment_store.specs.Changes.{IsDeleteFault, OfDirectory, first_uncounted, latest_generation}
use Rattle.ii_segment_store.specs.Commits.{HaveIdsBelow, IsFresh, listed_segment}
use Rattle.ii_segment_store.specs.Contents.{SegmentContents}

-- a list of the next generation
abbrev pub begun : MetaState → MetaState
begun m = record { generation = m.generation + 1; next_segment_id = m.next_segment_id; schema = m.schema; segments = m.segments }

-- a list with one segment more, of the same generation
abbrev pub with_listed : MetaState → SegmentState → MetaState
with_listed m listed = record {
  generation = m.generation;
  next_segment_id = m.next_segment_id + 1;
  schema = m.schema;
  segments = m.segments ++ listed ∷ [];
}

-- the same with the files of a segment, under the next id
abbrev pub with_next : MetaState → SegmentContents → MetaState
with_next m s = with_listed m (listed_segment m.next_segment_id s)

-- The next id of a list is above those of its segments, and no segment of the directory's list has it or a greater one.
pub record IsPending (m : MetaState) (files : Files) : Type 0 where
  pub fresh : IsFresh m.next_segment_id files
  pub below : HaveIdsBelow m.next_segment_id m.segments

-- Why no list follows this one: there is none, or it is of the last generation.
abbrev pub IsBeginFault : CommitFault → Result MetaState IndexFault → Type 0
IsBeginFault (faults.Store fault) found = Fails fault found
IsBeginFault (faults.NoCounts id) found = ⊥
IsBeginFault faults.TooMany (Ok m) = 2 ^ 64 ≤ m.generation + 1
IsBeginFault faults.TooMany (Err fault) = ⊥

-- Why a list isn't written, or a segment of it: no `meta` can hold it, unless a directory call or an allocation failed.
abbrev pub IsPendingFault : CommitFault → MetaState → Type 0
IsPendingFault (faults.Store fault) m = OfDirectory fault
IsPendingFault (faults.NoCounts id) m = ⊥
IsPendingFault faults.TooMany m = IsValidMeta m → ⊥

-- The directory has a list of segments, and this list has flags of its greatest generation or of a greater one.
abbrev pub FollowsFlags : MetaState → Files → Type 0
FollowsFlags m files = (l : MetaState) × (list_in (files Meta) ≡ Ok l) × (latest_generation l.segments ≤ latest_generation m.segments)

-- Why documents of a list aren't deleted: a segment of them has no counts, or its flags aren't changed.
abbrev pub IsFlaggingFault : CommitFault → List (List ℕ) → MetaState → Files → Type 0
IsFlaggingFault (faults.Store fault) deleted m files = IsDeleteFault (faults.Store fault) deleted m files
IsFlaggingFault (faults.NoCounts id) deleted m files = first_uncounted deleted m.segments ≡ Some id
IsFlaggingFault faults.TooMany deleted m files = IsDeleteFault faults.TooMany deleted m files
