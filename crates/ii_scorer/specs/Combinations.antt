-- How the scores of parts become one score. A part that doesn't match has none.
use Rattle.std.specs.Prelude.{ℕ, ◌+◌, ◌-◌, ◌^◌, List, [], ◌∷◌, Option, None, Some, min}
use Rattle.std.specs.List.{fold}

-- the sum of two scores, at most 2^64 - 1
abbrev pub add : ℕ → ℕ → ℕ
add a b = min (2 ^ 64 - 1) (a + b)

-- what a document scores by two parts, of which one has to match
abbrev pub either : Option ℕ → Option ℕ → Option ℕ
either None b = b
either (Some a) None = Some a
either (Some a) (Some b) = Some (add a b)

-- what a document scores by two parts, of which both have to match
abbrev pub both : Option ℕ → Option ℕ → Option ℕ
both None b = None
both (Some a) None = None
both (Some a) (Some b) = Some (add a b)

-- what a document scores by a part, unless it matches another one
abbrev pub unless : Option ℕ → Option ℕ → Option ℕ
unless a None = a
unless a (Some b) = None

-- what a document scores by some parts, of which one has to match
abbrev pub any_of : List (Option ℕ) → Option ℕ
any_of scores = fold either None scores

-- what a document scores by some parts, of which each has to match; nothing by none
abbrev pub each_of : List (Option ℕ) → Option ℕ
each_of [] = None
each_of (score ∷ scores) = fold both score scores
