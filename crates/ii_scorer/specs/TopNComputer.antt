-- The best of documents that come one by one.
use Rattle.std.specs.Prelude.{◌≡◌, ⊤, ℕ, ◌-◌, ◌^◌, ◌<◌, ◌≤◌, List, ◌∷◌, ◌++◌, Option, None, Some, nat_le}
use Rattle.std.specs.List.{All, count_by}
use Rattle.std.specs.List.Sorted.{IsPermutation}
use Rattle.std.specs.Ordering.{nat_cmp, ordering_then}
use Rattle.std.specs.declared.cmp.Ordering.{Ordering}
use Rattle.ii_scorer.specs.TopDocs.{Fits, rank_key}

-- documents that are kept: how many of them are wanted, and these documents
pub record TopNState : Type 0 where
  pub top_n : ℕ
  pub kept : List (ℕ × ℕ)

-- how many of these documents have a key up to this one
abbrev pub num_up_to : ℕ → List (ℕ × ℕ) → ℕ
num_up_to key kept = count_by (λ (k : ℕ × ℕ). nat_le (rank_key k) key) kept

-- how many of these documents score at least this
abbrev pub num_reaching : ℕ → List (ℕ × ℕ) → ℕ
num_reaching score scored = count_by (λ (d : ℕ × ℕ). nat_le score d.0) scored

-- Of these documents all were kept but some, each of which comes after as many as are wanted of those that were.
pub record KeepsBest (scored : List (ℕ × ℕ)) (s : TopNState) : Type 0 where
  pub others : List (ℕ × ℕ)
  pub same : IsPermutation scored (s.kept ++ others)
  pub fits : All Fits others
  pub enough : All (λ (a : ℕ × ℕ). s.top_n ≤ num_up_to (rank_key a) s.kept) others

-- A document needn't be kept: as many as are wanted come before another one, and that before it.
pub record MayBePassed (s : TopNState) (a : ℕ × ℕ) : Type 0 where
  pub key : ℕ
  pub wanted : s.top_n ≤ num_up_to key s.kept
  pub above : key ≤ rank_key a

-- The first of these documents is the worst.
pub record IsWorst (worst : ℕ × ℕ) (kept : List (ℕ × ℕ)) : Type 0 where
  pub rest : List (ℕ × ℕ)
  pub first : kept ≡ worst ∷ rest
  pub last : All (λ (a : ℕ × ℕ). rank_key a ≤ rank_key worst) rest

-- A score is less than the least one that is enough; if there is none, each is.
abbrev pub IsTooLow : Option ℕ → ℕ → Type 0
IsTooLow None score = ⊤
IsTooLow (Some least) score = score < least

-- a document with what its score is below the greatest one in place of the score
abbrev pub with_distance : ℕ × ℕ → ℕ × ℕ
with_distance a = (2 ^ 64 - 1 - a.0, a.1)

-- the order of documents with their distances, the best first
abbrev pub distance_cmp : ℕ × ℕ → ℕ × ℕ → Ordering
distance_cmp a b = ordering_then (nat_cmp a.0 b.0) (nat_cmp a.1 b.1)
