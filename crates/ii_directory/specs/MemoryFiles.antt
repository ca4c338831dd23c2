-- The files of a directory in memory after its changes.
use Rattle.std.specs.Prelude.{◌≡◌, ◌⊎◌, ◌≤◌, ℕ, List, [], ◌∷◌, ◌++◌, length, take, None, Some, IsSome, Vec, if◌then◌else◌}
use Rattle.std.specs.List.{Contains, IsDistinct}
use Rattle.std.proofs.Common.{inl, refl, sym, ap, subst}
use Rattle.std.proofs.Math.Nat.{le_refl}
use Rattle.std.specs.declared.alloc.Global.{Global}
use Rattle.ii_directory.specs.declared.memory_files.Change.{Change}
use Rattle.ii_directory.specs.declared.memory_files.Change.TheVariants.{Flushed, FlushedNames, Put, Removed, Renamed}
use Rattle.ii_directory.specs.declared.name.Name.{Name}
use Rattle.ii_directory.specs.declared.name.Name.TheVariants.{Meta}
use Rattle.ii_directory.specs.Directory.{Files, Same}
use Rattle.ii_directory.specs.FileSystem.{HasFlushedNames, IsFlushed, IsUnflushed, MayBeLeft, MayBeMoved, MayBeRemoved}
use Rattle.ii_directory.specs.Names.{same_name}

-- a name that stands for a change: of the file that it may give bytes to, if there is one
abbrev pub target : Change → Name
target (Put name bytes) = name
target (Removed name) = name
target (Renamed from to) = to
target (Flushed name) = name
target FlushedNames = Meta

-- Of the targets, these are the names of files, each once.
pub record Lists (files : Files) (targets names : List Name) : Type 0 where
  pub there : (name : Name) → Contains names name → IsSome (files name)
  pub all : (name : Name) → Contains targets name → IsSome (files name) → Contains names name
  pub once : IsDistinct same_name names

-- the files after a change
abbrev pub changed : Change → Files → Files
changed (Put put bytes) files name = if same_name put name then Some bytes.items else files name
changed (Removed removed) files name = if same_name removed name then None else files name
changed (Renamed from to) files name =
    if same_name to name then files from
    else if same_name from name then None
    else files name
changed (Flushed flushed) files name = files name
changed FlushedNames files name = files name

-- the files after a list of changes, in order
unfoldable pub after : Files → List Change → Files
after files [] = files
after files (change ∷ changes) = after (changed change files) changes

-- the files after a list of changes to an empty directory
abbrev pub files_after : List Change → Files
files_after changes = after (λ _. None) changes

-- what a stop may leave of one more change, where `left` may have been left before it
abbrev pub left_of_change : Change → Files → MayBeLeft → MayBeLeft
left_of_change (Put name bytes) files left = IsUnflushed name left
left_of_change (Removed name) files left = MayBeRemoved name left
left_of_change (Renamed from to) files left = MayBeMoved from to left
left_of_change (Flushed name) files left = IsFlushed name files left
left_of_change FlushedNames files left = HasFlushedNames files left

-- all of a change may be left, or what a stop may leave of it
abbrev pub left_by : Change → Files → MayBeLeft → MayBeLeft
left_by change files left c = Same (changed change files) c ⊎ left_of_change change files left c

-- what a stop may leave after a list of changes, in order
unfoldable pub left_after : Files → MayBeLeft → List Change → MayBeLeft
left_after files left [] = left
left_after files left (change ∷ changes) = left_after (changed change files) (left_by change files left) changes

-- what a stop may leave after a list of changes to an empty folder
abbrev pub left_of : List Change → MayBeLeft
left_of changes = left_after (λ _. None) (λ c. Same (λ _. None) c) changes

-- a stop after k changes, for some k of at least t, may have left these files
abbrev pub WereSince : List Change → ℕ → Files → Type 0
WereSince changes t c = (k : ℕ) × (t ≤ k) × (k ≤ length changes) × left_of (take k changes) c

-- what a stopped write may leave
abbrev pub MayBePut : Name → List Change → List Change → Type 0
MayBePut name old new = (new ≡ old) ⊎ ((bytes : Vec ℕ Global) × (new ≡ old ++ Put name bytes ∷ []))

pub all_taken : (changes : List Change) → take (length changes) changes ≡ changes
all_taken [] = refl
all_taken (change ∷ changes) = ap (λ more. change ∷ more) (all_taken changes)

seen_after : (changes : List Change) (files c : Files) (left : MayBeLeft) → (Same files c → left c) → Same (after files changes) c → left_after files left changes c
unfolding after left_after
seen_after [] files c left now seen = now seen
seen_after (change ∷ changes) files c left now seen = seen_after changes (changed change files) c (left_by change files left) (λ same. inl same) seen

-- a stop may leave the current files
pub seen_left : (changes : List Change) (c : Files) → Same (files_after changes) c → left_of changes c
seen_left changes c seen = seen_after changes (λ _. None) c (λ c. Same (λ _. None) c) (λ same. same) seen

-- a stop now counts as a stop since any earlier time
pub counts_now : (changes : List Change) (t : ℕ) → t ≤ length changes → WereSince changes t (files_after changes)
counts_now changes t le =
    (length changes, le, le_refl (length changes), subst (λ (all : List Change). left_of all (files_after changes)) (sym (all_taken changes)) (seen_left changes (files_after changes) (λ name. refl)))
