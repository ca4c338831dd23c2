-- The scores of documents that a scorer hasn't passed.
use Rattle.std.specs.Prelude.{◌≡◌, ◌⊎◌, ⊤, ℕ, suc, ◌^◌, ◌<◌, ◌≤◌, List, [], ◌∷◌, Option, None, Some, get_or, if◌then◌else◌, map, max, nat_le}
use Rattle.std.specs.List.{AllByRecursion, flat_map, range_with_len}
use Rattle.std.specs.List.Sorted.{IsPermutation}
use Rattle.ii_base.specs.declared.doc_id.TheConstants.{TERMINATED}
use Rattle.ii_scorer.specs.BlockLists.{BlockList}
use Rattle.ii_scorer.specs.Combinations.{add}
use Rattle.ii_scorer.specs.declared.scorer.ScoreBound.{ScoreBound}

-- what each document below `TERMINATED` scores that wasn't passed, at most how much, how deep the scorer is nested, a bound of each of these documents, and the lists that it reads
pub record ScorerState : Type 0 where
  pub scores : List (Option ℕ)
  pub most : ℕ
  pub depth : ℕ
  pub bounds : List ℕ
  pub lists : List BlockList

-- what a document scores
abbrev pub score_of : ScorerState → ℕ → Option ℕ
score_of s doc = get_or s.scores doc None

-- the bound of a document
abbrev pub doc_bound : ScorerState → ℕ → ℕ
doc_bound s doc = get_or s.bounds doc 0

-- what the documents below a number score
unfoldable pub scores_below : ℕ → (ℕ → Option ℕ) → List (Option ℕ)
scores_below n f = map f (range_with_len 0 n)

-- their bounds
unfoldable pub bounds_below : ℕ → (ℕ → ℕ) → List ℕ
bounds_below n f = map f (range_with_len 0 n)

-- A score is below this one, if there is a score.
abbrev pub IsBelow : ℕ → Option ℕ → Type 0
IsBelow least None = ⊤
IsBelow least (Some score) = score < least

-- A score is at most this one, if there is a score.
abbrev pub IsUpTo : ℕ → Option ℕ → Type 0
IsUpTo most None = ⊤
IsUpTo most (Some score) = score ≤ most

-- a score, if it is at least this one
abbrev pub if_at_least : ℕ → Option ℕ → Option ℕ
if_at_least least None = None
if_at_least least (Some score) = if nat_le least score then Some score else None

-- A move to a document passes another one, which is below it; a move to `TERMINATED` passes each.
abbrev pub IsPassed : ℕ → ℕ → Type 0
IsPassed next doc = (doc < next) ⊎ (TERMINATED ≤ next)

-- A document is the next one, from a target on, that may score this: those that are passed score less.
pub record IsNext (target least : ℕ) (f : ℕ → Option ℕ) (next : ℕ) : Type 0 where
  pub low : target ≤ next
  pub up_to : next ≤ TERMINATED
  pub passed : (doc : ℕ) → target ≤ doc → IsPassed next doc → IsBelow least (f doc)

-- No document scores more than the scorer says, a number of 64 bits, and none from `TERMINATED` on has a score.
pub record IsBounded (s : ScorerState) : Type 0 where
  pub fits : s.most < 2 ^ 64
  pub ends : (doc : ℕ) → TERMINATED ≤ doc → score_of s doc ≡ None
  pub each : (doc : ℕ) → IsUpTo s.most (score_of s doc)

-- No document from a target on, up to the end of a bound, scores more than the bound.
pub record IsBoundUntil (target : ℕ) (f : ℕ → Option ℕ) (bound : ScoreBound) : Type 0 where
  pub ahead : target < bound.end
  pub up_to : bound.end ≤ TERMINATED
  pub fits : bound.most < 2 ^ 64
  pub each : (doc : ℕ) → target ≤ doc → doc < bound.end → IsUpTo bound.most (f doc)

-- A document from a target on, up to another one, may score this by its bound.
pub record MayScore (target least next : ℕ) (bound : ℕ → ℕ) (doc : ℕ) : Type 0 where
  pub low : target ≤ doc
  pub up_to : doc ≤ next
  pub inside : doc < TERMINATED
  pub reaches : least ≤ bound doc

-- A scorer passed no document from this one on.
pub record KeepsFrom (doc : ℕ) (old new : ScorerState) : Type 0 where
  pub alike : (d : ℕ) → doc ≤ d → score_of new d ≡ score_of old d
  pub most : new.most ≡ old.most
  pub depth : new.depth ≡ old.depth
  pub bounds : new.bounds ≡ old.bounds
  pub bounded : IsBounded old → IsBounded new

-- what a document scores by each of some scorers
abbrev pub scores_at : List ScorerState → ℕ → List (Option ℕ)
scores_at parts doc = map (λ (s : ScorerState). score_of s doc) parts

-- the sum of the greatest scores of some scorers, at most 2^64 - 1
abbrev pub most_of : List ScorerState → ℕ
most_of [] = 0
most_of (s ∷ ss) = add s.most (most_of ss)

-- the sums of the greatest scores of the first scorer, of the first two and so on, with a number before them
abbrev pub sums_after : ℕ → List ScorerState → List ℕ
sums_after sum [] = []
sums_after sum (s ∷ ss) = add sum s.most ∷ sums_after (add sum s.most) ss

-- the sum of the bounds of a document by some scorers, at most 2^64 - 1
abbrev pub bound_over : List ScorerState → ℕ → ℕ
bound_over [] doc = 0
bound_over (s ∷ ss) doc = add (doc_bound s doc) (bound_over ss doc)

-- the lists of some scorers, one after the other
abbrev pub lists_of : List ScorerState → List BlockList
lists_of = flat_map (λ (s : ScorerState). s.lists)

-- These are the lists of some scorers in some order.
pub record AreListsOf (ss : List ScorerState) (lists : List BlockList) : Type 0 where
  pub order : List ScorerState
  pub same : IsPermutation ss order
  pub are : lists ≡ lists_of order

-- one more than the depth of the deepest of some scorers
abbrev pub depth_over : List ScorerState → ℕ
depth_over [] = 0
depth_over (s ∷ ss) = max (suc s.depth) (depth_over ss)

-- The greatest scores of some scorers bound what documents score by them, and are at most this together.
abbrev pub AreBounded : ℕ → List ScorerState → Type 0
AreBounded most parts = AllByRecursion IsBounded parts × (most_of parts ≤ most)
