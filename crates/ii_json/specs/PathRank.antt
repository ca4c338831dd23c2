-- The order of paths by their bytes.
use Rattle.std.specs.Prelude.{◌≡◌, ℕ, Bool, List, [], map, slice_index_or}
use Rattle.std.specs.List.{count_by}
use Rattle.std.specs.Ordering.{is_lt, nat_cmp}
use Rattle.std.specs.Cmp.Lexicographic.{slice_cmp}
use Rattle.std.specs.List.Sorted.{IsStrictlySortedBy}

-- whether the bytes of a path are less than those of another
abbrev pub is_smaller : List ℕ → List ℕ → Bool
is_smaller path other = is_lt (slice_cmp nat_cmp path other)

-- the number of known paths that are less
abbrev pub path_rank : List (List ℕ) → List ℕ → ℕ
path_rank known path = count_by (λ other. is_smaller other path) known

-- the rank of each known path, in order of first use
abbrev pub path_ranks : List (List ℕ) → List ℕ
path_ranks known = map (path_rank known) known

-- Each path is less than all that follow.
abbrev pub AreAscendingPaths : List (List ℕ) → Type 0
AreAscendingPaths paths = IsStrictlySortedBy (slice_cmp nat_cmp) paths

-- Each known path is at the index of its rank.
abbrev pub StandAtRanks : List (List ℕ) → List (List ℕ) → Type 0
StandAtRanks known paths = map (λ path. slice_index_or paths (path_rank known path) []) known ≡ known
