-- The best of the documents that match.
use Rattle.std.specs.Prelude.{◌≡◌, ◌⊎◌, ℕ, ◌+◌, ◌-◌, ◌*◌, ◌^◌, ◌<◌, ◌≤◌, List, [], ◌∷◌, Option, None, Some, drop, get_or, length, take}
use Rattle.std.specs.List.{flat_map, range_with_len}
use Rattle.std.specs.List.Sorted.{IsPermutation}
use Rattle.ii_scorer.specs.declared.top_docs.TopDocs.{TopDocs}

-- a document with its score, if it has one
abbrev pub with_score : Option ℕ → ℕ → List (ℕ × ℕ)
with_score None doc = []
with_score (Some score) doc = (score, doc) ∷ []

-- the first documents that have a score, each by its number with the score
abbrev pub scored_by_number : (ℕ → ℕ) → ℕ → (ℕ → Option ℕ) → List (ℕ × ℕ)
scored_by_number number num_docs score_of = flat_map (λ (doc : ℕ). with_score (score_of doc) (number doc)) (range_with_len 0 num_docs)

-- the documents below a number that have a score, each with it, in ascending order
abbrev pub scored_docs : ℕ → (ℕ → Option ℕ) → List (ℕ × ℕ)
scored_docs = scored_by_number (λ (doc : ℕ). doc)

-- A document comes before another one, or is it: its score is greater, or the same, and it is the smaller document.
abbrev pub Precedes : ℕ × ℕ → ℕ × ℕ → Type 0
Precedes a b = (b.0 < a.0) ⊎ ((b.0 ≡ a.0) × (a.1 ≤ b.1))

-- These are the same documents with their scores, the best first.
pub record AreRanked (scored ranked : List (ℕ × ℕ)) : Type 0 where
  pub same : IsPermutation scored ranked
  pub order : (i j : ℕ) → i ≤ j → j < length ranked → Precedes (get_or ranked i (0, 0)) (get_or ranked j (0, 0))

-- These are the best of the documents: as many as are wanted, after those that are passed.
pub record AreBest (docs : TopDocs) (scored best : List (ℕ × ℕ)) : Type 0 where
  pub ranked : List (ℕ × ℕ)
  pub are_ranked : AreRanked scored ranked
  pub best_are : best ≡ take docs.limit (drop docs.offset ranked)

-- a number by which documents are ranked: the least is the first
abbrev pub rank_key : ℕ × ℕ → ℕ
rank_key a = (2 ^ 64 - 1 - a.0) * 2 ^ 32 + a.1

-- A score has 64 bits, and a document 32.
pub record Fits (a : ℕ × ℕ) : Type 0 where
  pub score : a.0 < 2 ^ 64
  pub doc : a.1 < 2 ^ 32
