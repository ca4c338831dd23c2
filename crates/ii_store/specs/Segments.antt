-- The segments that the files of a folder hold, and what a commit leaves, wherever it is stopped.
use Rattle.std.specs.Prelude.{◌≡◌, ◌<◌, ◌⊎◌, ℕ, ◌+◌, ◌==◌, IsSomeAnd, not, List, [], ◌∷◌, map, length, Option, None, Some, Result, Ok, Err, if◌then◌else◌}
use Rattle.std.specs.List.{flat_map}
use Rattle.ii_store.specs.declared.faults.IndexFault.{IndexFault}
use Rattle.ii_store.specs.declared.faults.IndexFault.TheVariants.{NoIndex, MissingFile, WrongFileLength, WrongFileChecksum}
use Rattle.ii_store.specs.declared.faults.StoreFault.{StoreFault}
use Rattle.ii_store.specs.declared.index_meta.FileMeta.{FileMeta}
use Rattle.ii_directory.specs.declared.name.Name.{Name}
use Rattle.ii_directory.specs.declared.name.Name.TheVariants.{Meta, NewMeta, Segment}
use Rattle.ii_directory.specs.Directory.{Elapses, Files}
use Rattle.ii_store.specs.FileDigest.{has_digest}
use Rattle.ii_store.specs.Index.{◌>>=◌, Fails}
use Rattle.ii_store.specs.IndexMeta.{IsValidMeta, MetaState, SegmentState, meta_of}

-- a file of a segment, as `meta` lists it
pub record ListedFile : Type 0 where
  pub id : ℕ
  pub file : FileMeta

-- the files of a segment
abbrev pub files_of_segment : SegmentState → List ListedFile
files_of_segment s = map (λ (f : FileMeta). record { id = s.id; file = f }) s.files

-- all files of a list of segments, in order
abbrev pub listed : MetaState → List ListedFile
listed m = flat_map files_of_segment m.segments

-- the list of segments in a `meta` file, if there is one
unfoldable pub list_in : Option (List ℕ) → Result MetaState IndexFault
list_in None = Err NoIndex
list_in (Some meta) = meta_of meta

-- the bytes of a listed file, if they are those that `meta` describes
unfoldable pub listed_bytes : ListedFile → Option (List ℕ) → Result (List ℕ) IndexFault
listed_bytes l None = Err (MissingFile l.id l.file.component)
listed_bytes l (Some bytes) =
    if not (length bytes == l.file.len) then Err (WrongFileLength l.id l.file.component)
    else if not (has_digest l.file.digest bytes) then Err (WrongFileChecksum l.id l.file.component)
    else Ok bytes

-- A file has more bytes than this.
abbrev pub IsLonger : ℕ → Option (List ℕ) → Type 0
IsLonger len seen = IsSomeAnd seen (λ bytes. len < length bytes)

-- the bytes of all listed files, or the first fault
unfoldable pub contents_of : List ListedFile → Files → Result (List (List ℕ)) IndexFault
contents_of [] files = Ok []
contents_of (l ∷ ls) files = do
  first ← listed_bytes l (files (Segment l.id l.file.component))
  others ← contents_of ls files
  Ok (first ∷ others)

-- all of these files are there, with their lengths and checksums
abbrev pub HasContents : List ListedFile → Files → Type 0
HasContents ls files = (contents : List (List ℕ)) × (contents_of ls files ≡ Ok contents)

-- all of these files are there, or the fault is the first one's, unless a directory call or an allocation failed
abbrev pub Reports : {T : Type 0} → Result T StoreFault → List ListedFile → Files → Type 0
Reports (Ok _) ls files = HasContents ls files
Reports (Err e) ls files = Fails e (contents_of ls files)

-- an index of segments: its list, and the bytes of all files, in the order of the list
pub record SegmentedIndex : Type 0 where
  pub meta : MetaState
  pub contents : List (List ℕ)

-- the index of a list, of the files that it lists
unfoldable pub index_with : MetaState → Files → Result SegmentedIndex IndexFault
index_with m files = do
  contents ← contents_of (listed m) files
  Ok (record { meta = m; contents = contents })

-- the index of segments that the files of a folder hold, or the first fault
unfoldable pub segments_of : Files → Result SegmentedIndex IndexFault
segments_of files = do
  m ← list_in (files Meta)
  index_with m files

-- the generation of the list in a `meta` file, and 0 if there is none
abbrev pub generation_in : Result MetaState IndexFault → ℕ
generation_in (Ok m) = m.generation
generation_in (Err fault) = 0

-- every listed file is there, with its length and checksum
abbrev pub AreThere : MetaState → Files → Type 0
AreThere m files = (i : SegmentedIndex) × (index_with m files ≡ Ok i)

-- A list follows that of a folder, and its files are there.
pub record MayCommit (m : MetaState) (files : Files) : Type 0 where
  pub valid : IsValidMeta m
  pub follows : m.generation ≡ generation_in (list_in (files Meta)) + 1
  pub there : AreThere m files

-- The files hold the old index, or that of the new list.
abbrev pub IsOldOrNewList : Files → MetaState → Files → Type 0
IsOldOrNewList old m files = (segments_of files ≡ segments_of old) ⊎ (segments_of files ≡ index_with m old)

-- only the metas were changed
abbrev pub KeepsOtherFiles : Files → Files → Type 0
KeepsOtherFiles old new = (name : Name) → (name ≡ Meta → ⊥) → (name ≡ NewMeta → ⊥) → new name ≡ old name

-- The files have the old `meta` or that of a list, and only the metas may have changed.
pub record MayBeReplaced (m : MetaState) (old new : Files) : Type 0 where
  pub meta : (new Meta ≡ old Meta) ⊎ (list_in (new Meta) ≡ Ok m)
  pub keeps : KeepsOtherFiles old new

-- A stop at any time since old leaves the old list of segments or the new one, with its files.
pub record LeavesOneList {D : Type 0} (moment : D → ℕ) (left_since : D → ℕ → Files → Type 0) (seen : D → Files) (old new : D) (m : MetaState) : Type 0 where
  pub each : (c : Files) → left_since new (moment old) c → IsOldOrNewList (seen old) m c
  -- for a run that started earlier
  pub time : Elapses (moment old) (moment new) (left_since old) (left_since new) (IsOldOrNewList (seen old) m)

-- A stop at any time since old leaves the old index.
pub record LeavesSameList {D : Type 0} (moment : D → ℕ) (left_since : D → ℕ → Files → Type 0) (seen : D → Files) (old new : D) : Type 0 where
  pub each : (c : Files) → left_since new (moment old) c → segments_of c ≡ segments_of (seen old)
  pub time : Elapses (moment old) (moment new) (left_since old) (left_since new) (λ c. segments_of c ≡ segments_of (seen old))
