-- Which tokens of a text a snippet shows.
use Rattle.std.specs.Prelude.{ℕ, ◌≡◌, ◌+◌, ◌-◌, ◌*◌, ◌/◌, ◌<◌, ◌≤◌, Bool, List, [], ◌∷◌, drop, length, min, nat_eq, take, if◌then◌else◌}
use Rattle.std.specs.List.{filter_map, list_any, suffix_len}
use Rattle.std.specs.Option.{is_none}
use Rattle.ii_snippet.specs.declared.windows.SnippetToken.{SnippetToken}

-- the wanted words that some tokens are, in order
abbrev pub words_in : List SnippetToken → List ℕ
words_in ts = filter_map (λ (t : SnippetToken). t.wanted) ts

-- how many different numbers a list has: those that don't come again
abbrev pub num_different : List ℕ → ℕ
num_different [] = 0
num_different (n ∷ ns) = if list_any (nat_eq n) ns then num_different ns else num_different ns + 1

-- the weight of wanted words: how many different ones there are, and among as many how many in all
abbrev pub weight : List ℕ → ℕ
weight words = num_different words * 4294967296 + length words

-- whether a token is no wanted word
abbrev pub is_unwanted : SnippetToken → Bool
is_unwanted t = is_none t.wanted

-- the tokens from a place on, as many as there may be
abbrev pub window : ℕ → List SnippetToken → ℕ → List SnippetToken
window limit ts start = take limit (drop start ts)

-- the weight of the window that begins at a place, if a wanted token is there
abbrev pub window_weight : ℕ → List SnippetToken → ℕ → ℕ
window_weight limit ts start = if list_any is_unwanted (take 1 (drop start ts)) then 0 else weight (words_in (window limit ts start))

-- among the first n places, this is the first one at which a number is greatest
pub record IsFirstGreatest (number : ℕ → ℕ) (n best : ℕ) : Type 0 where
  pub below : best < n
  pub greatest : (place : ℕ) → place < n → number place ≤ number best
  pub first : (place : ℕ) → place < best → number place < number best

-- how many tokens there are up to the last wanted one
abbrev pub span : List SnippetToken → ℕ
span ts = length ts - suffix_len is_unwanted ts

-- where the shown tokens begin: the part of a window up to its last wanted token is in the middle, but no token that may be shown is missing at the end of the text
abbrev pub shown_from : ℕ → List SnippetToken → ℕ → ℕ
shown_from limit ts start = min (start - (limit - span (window limit ts start)) / 2) (length ts - limit)

-- whether these tokens are shown: as many as there may be, around the first of the heaviest windows
pub record AreShown (limit : ℕ) (ts shown : List SnippetToken) : Type 0 where
  pub start : ℕ
  pub heaviest : IsFirstGreatest (window_weight limit ts) (length ts) start
  pub are : shown ≡ window limit ts (shown_from limit ts start)
