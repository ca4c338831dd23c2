-- The files of a folder, the effect of each call, and what a stop may leave.
use Rattle.std.specs.Prelude.{◌≡◌, ◌⊎◌, ℕ, ◌≤◌, List, Option, None, Some, IfSome, IsSome, Vec, Result, IfErr, ⊤}
use Rattle.std.specs.List.{Contains, IsDistinct}
use Rattle.std.specs.declared.alloc.Global.{Global}
use Rattle.ii_directory.specs.declared.faults.DirectoryFault.{DirectoryFault}
use Rattle.ii_directory.specs.declared.faults.DirectoryFault.TheVariants.{OutOfMemory, Refused}
use Rattle.ii_directory.specs.declared.name.Name.{Name}
use Rattle.ii_directory.specs.Names.{same_name}

-- the bytes of each existing file
abbrev pub Files : Type 0
Files = Name → Option (List ℕ)

-- the bytes that a read found
abbrev pub found_bytes : Option (Vec ℕ Global) → Option (List ℕ)
found_bytes None = None
found_bytes (Some v) = Some v.items

-- the file that was opened has these bytes, or there is none
abbrev pub IsOpened : {F : Type 0} → (F → Option (List ℕ)) → Option (List ℕ) → Option F → Type 0
IsOpened bytes seen None = seen ≡ None
IsOpened bytes seen (Some file) = (bytes file ≡ seen) × IsSome seen

-- these are the names of all files, each once
pub record IsListing (names : List Name) (files : Files) : Type 0 where
  pub there : (name : Name) → Contains names name → IsSome (files name)
  pub all : (name : Name) → IsSome (files name) → Contains names name
  pub once : IsDistinct same_name names

-- two names differ
abbrev pub IsOther : Name → Name → Type 0
IsOther name other = other ≡ name → ⊥

-- the files are equal
abbrev pub Same : Files → Files → Type 0
Same old new = (name : Name) → new name ≡ old name

-- all files except this one are equal
abbrev pub Elsewhere : Name → Files → Files → Type 0
Elsewhere name old new = (other : Name) → IsOther name other → new other ≡ old other

-- this file has these bytes, or is missing; all other files are unchanged
pub record IsPut (name : Name) (bytes : Option (List ℕ)) (old new : Files) : Type 0 where
  pub there : new name ≡ bytes
  pub elsewhere : Elsewhere name old new

-- A file got its name; its bytes are those that it is known to have. All other files are unchanged.
pub record IsFinished (name : Name) (contents : Option (List ℕ)) (old new : Files) : Type 0 where
  pub bytes : List ℕ
  pub put : IsPut name (Some bytes) old new
  pub known : IfSome contents (λ known. bytes ≡ known)

-- a file was renamed; all other files are unchanged
pub record IsRenamed (from to : Name) (old new : Files) : Type 0 where
  pub there : new to ≡ old from
  pub elsewhere : (other : Name) → IsOther from other → IsOther to other → new other ≡ old other

-- a file was renamed, or nothing changed
abbrev pub MayBeRenamed : Name → Name → Files → Files → Type 0
MayBeRenamed from to old new = Same old new ⊎ IsRenamed from to old new

-- Time advances: a stop since t may have left what it might have left before, or files that satisfy P.
pub record Elapses (before now : ℕ) (past since : ℕ → Files → Type 0) (P : Files → Type 0) : Type 0 where
  pub later : before ≤ now
  pub nothing_else : (t : ℕ) (c : Files) → t ≤ before → since t c → past t c ⊎ P c
  pub keeps : (t : ℕ) (c : Files) → t ≤ before → past t c → since t c

-- the system refused a call
abbrev pub IsRefusal : DirectoryFault → Type 0
IsRefusal OutOfMemory = ⊥
IsRefusal (Refused kind) = ⊤

-- only what may refuse calls refuses one
abbrev pub is_obeyed : {T E : Type 0} → (E → Type 0) → Type 0 → Result T E → Type 0
is_obeyed refusal may_refuse result = IfErr result (λ e. refusal e → may_refuse)

-- Only what may refuse calls refuses one, or may refuse the next.
pub record Obeys {T E : Type 0} (refusal : E → Type 0) (old new : Type 0) (result : Result T E) : Type 0 where
  pub obeyed : is_obeyed refusal old result
  pub still : new → old
