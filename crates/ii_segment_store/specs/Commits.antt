-- What a commit of a segment leaves, wherever it is stopped.
use Rattle.std.specs.Prelude.{◌≡◌, ◌⊎◌, ℕ, ◌+◌, ◌<◌, ◌≤◌, List, [], ◌∷◌, ◌++◌, IfSome, Option, Result, Ok, Err, None, Some}
use Rattle.std.specs.List.{AllByRecursion}
use Rattle.ii_store.specs.declared.faults.IndexFault.{IndexFault}
use Rattle.ii_store.specs.declared.index_meta.FileMeta.{FileMeta}
use Rattle.ii_directory.specs.declared.name.Kind.{Kind}
use Rattle.ii_directory.specs.declared.name.Kind.TheVariants as kinds
use Rattle.ii_directory.specs.declared.name.Name.{Name}
use Rattle.ii_directory.specs.declared.name.Name.TheVariants.{File, Meta, Segment}
use Rattle.ii_directory.specs.declared.name.SegmentComponent.{SegmentComponent}
use Rattle.ii_directory.specs.declared.name.Slot.{Slot}
use Rattle.ii_directory.specs.declared.name.SegmentComponent.TheVariants.{BlockTables, Counts, FieldNorms, Positions, Postings, Store, Terms}
use Rattle.ii_directory.specs.Directory.{Elapses, Files}
use Rattle.ii_store.specs.Faults.{IsRefused}
use Rattle.ii_store.specs.Index.{Fails}
use Rattle.ii_store.specs.IndexMeta.{IsValidMeta, MetaState, SegmentState, file_meta}
use Rattle.ii_store.specs.Segments.{list_in}
use Rattle.ii_segment_store.specs.declared.faults.CommitFault.{CommitFault}
use Rattle.ii_segment_store.specs.declared.faults.CommitFault.TheVariants as faults
use Rattle.ii_segment_store.specs.BlockTables.{segment_tables}
use Rattle.ii_segment_store.specs.Contents.{IndexContents, SegmentContents, index_contents}

-- a file that a segment may not have, as `meta` lists it
abbrev pub listed_if : SegmentComponent → Option (List ℕ) → List FileMeta
listed_if component None = []
listed_if component (Some bytes) = file_meta component bytes ∷ []

-- a segment, as `meta` lists it
abbrev pub listed_segment : ℕ → SegmentContents → SegmentState
listed_segment id s = record {
  id = id;
  num_docs = s.num_docs;
  num_living = s.num_docs;
  files = file_meta Terms s.terms ∷ file_meta Postings s.postings ∷ file_meta Positions s.positions ∷ file_meta FieldNorms s.fieldnorms ∷ listed_if Counts s.counts ++ listed_if Store s.store ++ file_meta BlockTables (segment_tables s) ∷ [];
}

-- the next list, with one segment more under the next id
abbrev pub next_list : MetaState → SegmentContents → MetaState
next_list m s = record {
  generation = m.generation + 1;
  next_segment_id = m.next_segment_id + 1;
  schema = m.schema;
  segments = m.segments ++ listed_segment m.next_segment_id s ∷ [];
}

-- a list without segments, with a schema; its numbers continue those of a list, if there is one
abbrev pub emptied : List ℕ → Result MetaState IndexFault → MetaState
emptied schema (Ok m) = record { generation = m.generation; next_segment_id = m.next_segment_id; schema = schema; segments = [] }
emptied schema (Err fault) = record { generation = 0; next_segment_id = 0; schema = schema; segments = [] }

-- an index with one segment
abbrev pub index_of_segment : List ℕ → SegmentContents → IndexContents
index_of_segment schema s = record { schema = schema; segments = s ∷ [] }

-- The ids of segments are below the next one.
abbrev pub HaveIdsBelow : ℕ → List SegmentState → Type 0
HaveIdsBelow next ss = AllByRecursion (λ (s : SegmentState). s.id < next) ss

-- No file of the current list has this id or a greater one.
abbrev pub IsFresh : ℕ → Files → Type 0
IsFresh id files = (m : MetaState) → list_in (files Meta) ≡ Ok m → m.next_segment_id ≤ id

-- The files have a list of segments.
abbrev pub HasList : Files → Type 0
HasList files = (m : MetaState) × (list_in (files Meta) ≡ Ok m)

-- only files of one segment were changed
abbrev pub KeepsButSegment : ℕ → Files → Files → Type 0
KeepsButSegment id old new = (name : Name) → ((component : SegmentComponent) → name ≡ Segment id component → ⊥) → new name ≡ old name

-- The file of a component is there, if a segment has one.
abbrev pub HasFileIf : ℕ → SegmentComponent → Option (List ℕ) → Files → Type 0
HasFileIf id component found files = IfSome found (λ bytes. files (Segment id component) ≡ Some bytes)

-- The files of a segment are there.
pub record HasSegment (id : ℕ) (s : SegmentContents) (files : Files) : Type 0 where
  pub terms : files (Segment id Terms) ≡ Some s.terms
  pub postings : files (Segment id Postings) ≡ Some s.postings
  pub positions : files (Segment id Positions) ≡ Some s.positions
  pub fieldnorms : files (Segment id FieldNorms) ≡ Some s.fieldnorms
  pub counts : HasFileIf id Counts s.counts files
  pub store : HasFileIf id Store s.store files
  pub tables : files (Segment id BlockTables) ≡ Some (segment_tables s)

-- Why a segment isn't added to a list: there is no list, or it would hold too much.
abbrev pub IsCommitFault : CommitFault → Result MetaState IndexFault → SegmentContents → Type 0
IsCommitFault (faults.Store fault) wanted s = Fails fault wanted
IsCommitFault (faults.NoCounts id) wanted s = ⊥
IsCommitFault faults.TooMany (Ok m) s = IsValidMeta (next_list m s) → ⊥
IsCommitFault faults.TooMany (Err fault) s = ⊥

-- the system refused a call
abbrev pub IsRefusedCommit : CommitFault → Type 0
IsRefusedCommit (faults.Store fault) = IsRefused fault
IsRefusedCommit (faults.NoCounts id) = ⊥
IsRefusedCommit faults.TooMany = ⊥

-- only files of one slot of version 1 were changed
abbrev pub KeepsButSlot : Slot → Files → Files → Type 0
KeepsButSlot slot old new = (name : Name) → ((kind : Kind) → name ≡ File slot kind → ⊥) → new name ≡ old name

-- only files of the slots of version 1 were changed
abbrev pub KeepsButSlots : Files → Files → Type 0
KeepsButSlots old new = (name : Name) → ((slot : Slot) (kind : Kind) → name ≡ File slot kind → ⊥) → new name ≡ old name

-- A slot of version 1 has no file, but for the schema.
pub record HasNoLists (slot : Slot) (files : Files) : Type 0 where
  pub terms : files (File slot kinds.Terms) ≡ None
  pub postings : files (File slot kinds.Postings) ≡ None
  pub positions : files (File slot kinds.Positions) ≡ None
  pub fieldnorms : files (File slot kinds.FieldNorms) ≡ None

-- A slot of version 1 has no file.
pub record HasNoSlot (slot : Slot) (files : Files) : Type 0 where
  pub schema : files (File slot kinds.Schema) ≡ None
  pub lists : HasNoLists slot files

-- The files hold what they held, or something else.
abbrev pub HoldsOldOr : Result IndexContents IndexFault → Files → Files → Type 0
HoldsOldOr wanted old c = (index_contents c ≡ index_contents old) ⊎ (index_contents c ≡ wanted)

-- A stop at any time since old leaves the old index or the wanted one.
pub record LeavesOneIndex {D : Type 0} (moment : D → ℕ) (left_since : D → ℕ → Files → Type 0) (seen : D → Files) (old new : D) (wanted : Result IndexContents IndexFault) : Type 0 where
  pub each : (c : Files) → left_since new (moment old) c → HoldsOldOr wanted (seen old) c
  -- for a run that started earlier
  pub time : Elapses (moment old) (moment new) (left_since old) (left_since new) (HoldsOldOr wanted (seen old))
