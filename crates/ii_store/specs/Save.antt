-- What a save leaves, wherever it is stopped.
use Rattle.std.specs.Prelude.{◌≡◌, ◌⊎◌, ℕ, None, Some, Result, Ok}
use Rattle.ii_directory.specs.declared.name.Slot.{Slot}
use Rattle.ii_directory.specs.declared.name.Kind.{Kind}
use Rattle.ii_directory.specs.declared.name.Name.{Name}
use Rattle.ii_directory.specs.declared.name.Name.TheVariants.{Meta, NewMeta, File}
use Rattle.ii_store.specs.declared.faults.IndexFault.{IndexFault}
use Rattle.ii_directory.specs.Directory.{Elapses, Files, IsOther}
use Rattle.ii_store.specs.Index.{Index, bytes_of_file, index_of}
use Rattle.ii_directory.specs.Names.{other_slot}

-- `meta` and the files of the other slot are unchanged
pub record IsOutside (slot : Slot) (old new : Files) : Type 0 where
  pub meta : new Meta ≡ old Meta
  pub files : (kind : Kind) → new (File (other_slot slot) kind) ≡ old (File (other_slot slot) kind)

-- neither the files of the other slot nor `meta.new` exist
pub record HasNoUnused (slot : Slot) (files : Files) : Type 0 where
  pub files_gone : (kind : Kind) → files (File (other_slot slot) kind) ≡ None
  pub new_meta_gone : files NewMeta ≡ None

-- all files but those are as they were
abbrev pub KeepsUsed : Slot → Files → Files → Type 0
KeepsUsed slot old new = (name : Name) → IsOther NewMeta name → ((kind : Kind) → IsOther (File (other_slot slot) kind) name) → new name ≡ old name

-- a slot holds the files of an index
abbrev pub HoldsFiles : Slot → Index → Files → Type 0
HoldsFiles slot i files = (kind : Kind) → files (File slot kind) ≡ Some (bytes_of_file i kind)

-- the files hold the old index or the new one
abbrev pub IsOldOrNew : Result Index IndexFault → Index → Files → Type 0
IsOldOrNew before i files = (index_of files ≡ before) ⊎ (index_of files ≡ Ok i)

-- The files hold the new index.
abbrev pub HoldsIndex : Index → Files → Type 0
HoldsIndex i files = index_of files ≡ Ok i

-- A stop at any time since old leaves the old index or the new one, never a mixture.
pub record LeavesOne {D : Type 0} (moment : D → ℕ) (left_since : D → ℕ → Files → Type 0) (seen : D → Files) (old new : D) (i : Index) : Type 0 where
  pub each : (c : Files) → left_since new (moment old) c → IsOldOrNew (index_of (seen old)) i c
  -- for a run that started earlier
  pub time : Elapses (moment old) (moment new) (left_since old) (left_since new) (IsOldOrNew (index_of (seen old)) i)

-- A stop at any time since old leaves the old index.
pub record LeavesSame {D : Type 0} (moment : D → ℕ) (left_since : D → ℕ → Files → Type 0) (seen : D → Files) (old new : D) : Type 0 where
  pub each : (c : Files) → left_since new (moment old) c → index_of c ≡ index_of (seen old)
  pub time : Elapses (moment old) (moment new) (left_since old) (left_since new) (λ c. index_of c ≡ index_of (seen old))
