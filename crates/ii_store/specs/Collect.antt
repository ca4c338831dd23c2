-- Which files of a folder no list of segments has any more, and what their removal leaves.
use Rattle.std.specs.Prelude.{◌≡◌, ◌⊎◌, ℕ, ◌==◌, not, Bool, true, false, ◌&&◌, List, None}
use Rattle.std.specs.List.{Contains, count_by, list_any}
use Rattle.ii_directory.specs.declared.name.Name.{Name}
use Rattle.ii_directory.specs.declared.name.Name.TheVariants.{Meta, NewMeta, File, Segment}
use Rattle.ii_directory.specs.declared.name.SegmentComponent.{SegmentComponent}
use Rattle.ii_directory.specs.Directory.{Elsewhere, Files, IsListing}
use Rattle.ii_store.specs.IndexMeta.{MetaState}
use Rattle.ii_directory.specs.Names.{same_component}
use Rattle.ii_store.specs.Segments.{ListedFile, listed}

-- whether a listed file is this component of this segment
abbrev pub is_file : ℕ → SegmentComponent → ListedFile → Bool
is_file id component l = (l.id == id) && same_component l.file.component component

-- whether a list of segments has a file
abbrev pub is_listed : MetaState → ℕ → SegmentComponent → Bool
is_listed m id component = list_any (is_file id component) (listed m)

-- whether a name is of the next `meta`, or of a file of a segment that the list doesn't have
abbrev pub is_garbage : MetaState → Name → Bool
is_garbage m Meta = false
is_garbage m NewMeta = true
is_garbage m (File slot kind) = false
is_garbage m (Segment id component) = not (is_listed m id component)

-- every file that isn't garbage is unchanged
abbrev pub KeepsOthers : MetaState → Files → Files → Type 0
KeepsOthers m old new = (name : Name) → is_garbage m name ≡ false → new name ≡ old name

-- no file is garbage
abbrev pub HasNoGarbage : MetaState → Files → Type 0
HasNoGarbage m files = (name : Name) → is_garbage m name ≡ true → files name ≡ None

-- this many names of files are garbage
abbrev pub CountsGarbage : MetaState → Files → ℕ → Type 0
CountsGarbage m files count = (names : List Name) × IsListing names files × (count ≡ count_by (is_garbage m) names)

-- A file was removed if it is garbage, and nothing else changed.
pub record IsRemoved (m : MetaState) (name : Name) (old new : Files) : Type 0 where
  pub gone : is_garbage m name ≡ true → new name ≡ None
  pub kept : is_garbage m name ≡ false → new name ≡ old name
  pub others : Elsewhere name old new

-- The garbage among these names was removed, and nothing else changed.
pub record IsCollected (m : MetaState) (names : List Name) (old new : Files) : Type 0 where
  pub gone : (name : Name) → Contains names name → is_garbage m name ≡ true → new name ≡ None
  pub kept : KeepsOthers m old new
  pub shrinks : (name : Name) → (new name ≡ old name) ⊎ (new name ≡ None)
