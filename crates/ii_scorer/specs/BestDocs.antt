-- The documents of a scorer by their numbers in an index.
use Rattle.std.specs.Prelude.{◌≡◌, ℕ, ◌<◌, ◌≤◌, ◌^◌, Bool, List, ◌++◌, Option, None, if◌then◌else◌, true}
use Rattle.std.specs.List.{All}
use Rattle.ii_scorer.specs.Scorers.{ScorerState, doc_bound, score_of}
use Rattle.ii_scorer.specs.TopDocs.{scored_by_number}
use Rattle.ii_scorer.specs.TopNComputer.{num_reaching}

-- how many documents there are, which of them count, and the number of each
pub record Numbering : Type 0 where
  pub num_docs : ℕ
  pub counts : ℕ → Bool
  pub number : ℕ → ℕ

-- The numbers of documents ascend as they do, and have 32 bits.
pub record AreNumbers (n : Numbering) : Type 0 where
  pub ascend : (doc later : ℕ) → doc ≤ later → later < n.num_docs → n.number doc ≤ n.number later
  pub fit : (doc : ℕ) → doc < n.num_docs → n.number doc < 2 ^ 32

-- what a document scores, if it counts
abbrev pub counted_score : Numbering → (ℕ → Option ℕ) → ℕ → Option ℕ
counted_score n score_of doc = if n.counts doc then score_of doc else None

-- the first documents that count and have a score, each by its number with the score
abbrev pub first_numbered : Numbering → ℕ → (ℕ → Option ℕ) → List (ℕ × ℕ)
first_numbered n count score_of = scored_by_number n.number count (counted_score n score_of)

-- all of them
abbrev pub numbered_docs : Numbering → (ℕ → Option ℕ) → List (ℕ × ℕ)
numbered_docs n = first_numbered n n.num_docs

-- The numbers of documents come after those of others, and that of a document that counts is below those of all later ones.
pub record NumbersComeAfter (scored : List (ℕ × ℕ)) (n : Numbering) : Type 0 where
  pub after : (doc : ℕ) → doc < n.num_docs → All (λ (a : ℕ × ℕ). a.1 < n.number doc) scored
  pub apart : (doc later : ℕ) → doc < later → later < n.num_docs → n.counts doc ≡ true → n.number doc < n.number later

-- Of the documents before this one fewer than are wanted score at least its bound.
abbrev pub IsNeeded : List (ℕ × ℕ) → Numbering → ScorerState → ℕ → ℕ → Type 0
IsNeeded scored n s top_n doc = num_reaching (doc_bound s doc) (scored ++ first_numbered n doc (score_of s)) < top_n
