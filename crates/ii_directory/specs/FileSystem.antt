-- What a file system may leave of changes that are not flushed.
use Rattle.std.specs.Prelude.{◌≡◌, ◌⊎◌, ◌↔◌, None, IsSome}
use Rattle.ii_directory.specs.declared.name.Name.{Name}
use Rattle.ii_directory.specs.Directory.{Elsewhere, Files, IsOther, IsPut, IsRenamed, Same}

-- what the power's failure may leave
abbrev pub MayBeLeft : Type 1
MayBeLeft = Files → Type 0

-- A file isn't flushed: it may have any bytes, or be missing. The others are as they might have been left before.
pub record IsUnflushed (name : Name) (old : MayBeLeft) (c : Files) : Type 0 where
  pub before : Files
  pub left : old before
  pub elsewhere : Elsewhere name before c

-- The bytes of a file are flushed, its name may not be: it has its bytes or is missing.
pub record IsFlushed (name : Name) (seen : Files) (old : MayBeLeft) (c : Files) : Type 0 where
  pub left : old c
  pub bytes : (c name ≡ seen name) ⊎ (c name ≡ None)

-- All names are flushed: the files that are left are those that are seen.
pub record HasFlushedNames (seen : Files) (old : MayBeLeft) (c : Files) : Type 0 where
  pub left : old c
  pub names : (name : Name) → IsSome (c name) ↔ IsSome (seen name)

-- a file was renamed, and has its old name no more
pub record IsMoved (from to : Name) (old new : Files) : Type 0 where
  pub renamed : IsRenamed from to old new
  pub gone : IsOther from to → new from ≡ None

-- A file may have been renamed; all else is as it might have been left before.
abbrev pub MayBeMoved : Name → Name → MayBeLeft → Files → Type 0
MayBeMoved from to old c = old c ⊎ ((before : Files) × old before × IsMoved from to before c)

-- A file may have been removed; all else is as it might have been left before.
abbrev pub MayBeRemoved : Name → MayBeLeft → Files → Type 0
MayBeRemoved name old c = old c ⊎ ((before : Files) × old before × IsPut name None before c)

-- nothing but these files may be left
abbrev pub LeavesOnly : Files → MayBeLeft → Type 0
LeavesOnly seen left = (c : Files) → left c → Same seen c
