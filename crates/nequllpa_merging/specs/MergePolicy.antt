-- Which segments of an index are merged.
use Rattle.std.specs.Prelude.{◌≡◌, ℕ, suc, ◌<◌, ◌≤◌, ◌^◌, ◌&&◌, ⊤, Bool, false, List, [], ◌∷◌, ◌++◌, drop, length, nat_le, nat_lt, take, if◌then◌else◌}
use Rattle.std.specs.List.{sum}

-- whether a segment has at most as many documents as those behind it together, if there are any
abbrev pub is_outgrown : ℕ → List ℕ → Bool
is_outgrown n behind = nat_lt 0 (length behind) && nat_le n (sum behind)

-- the place of the first such segment, or the number of segments
abbrev pub first_outgrown : List ℕ → ℕ
first_outgrown [] = 0
first_outgrown (n ∷ behind) = if is_outgrown n behind then 0 else suc (first_outgrown behind)

-- the place of the first number that is at most a limit with all behind it, or how many numbers there are
abbrev pub first_fitting : ℕ → List ℕ → ℕ
first_fitting limit [] = 0
first_fitting limit (n ∷ behind) = if nat_le (sum (n ∷ behind)) limit then 0 else suc (first_fitting limit behind)

-- Each segment has more documents than those behind it together.
abbrev pub IsSettled : List ℕ → Type 0
IsSettled [] = ⊤
IsSettled (n ∷ behind) = (is_outgrown n behind ≡ false) × IsSettled behind

-- the numbers of documents, with the segments from a place on in one, if there are any
abbrev pub joined_from : ℕ → List ℕ → List ℕ
joined_from first counts = if nat_lt first (length counts) then take first counts ++ sum (drop first counts) ∷ [] else counts

-- The law: once the segments from the first outgrown one on are one, none is outgrown, and there are as many documents.
pub record MergeSettles (counts : List ℕ) : Type 0 where
  pub settled : IsSettled (joined_from (first_outgrown counts) counts)
  pub total : sum (joined_from (first_outgrown counts) counts) ≡ sum counts

-- The law: of fewer than 2^31 documents there are at most 32 such segments.
abbrev pub SettledAreFew : Type 0
SettledAreFew = (counts : List ℕ) → IsSettled counts → sum counts < 2 ^ 31 → length counts ≤ 32
