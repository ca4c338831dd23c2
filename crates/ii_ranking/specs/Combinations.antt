-- Scores of documents that are combined, one by one.
use Rattle.std.specs.Prelude.{◌≡◌, ℕ, ◌<◌, List, Option, None, get_or, if◌then◌else◌, length, nat_lt, set}
use Rattle.ii_ranking.specs.declared.combination.Combination.{Combination}
use Rattle.ii_ranking.specs.declared.combination.Combination.TheVariants.{Either, Both, Unless}
use Rattle.ii_scorer.specs.Combinations.{both, either, unless}

-- what a document scores by two parts
abbrev pub combined : Combination → Option ℕ → Option ℕ → Option ℕ
combined Either = either
combined Both = both
combined Unless = unless

-- The scores of documents were combined with others, one by one.
pub record AreCombined (by : Combination) (others : ℕ → Option ℕ) (old new : List (Option ℕ)) : Type 0 where
  pub many : length new ≡ length old
  pub each : (doc : ℕ) → doc < length old → get_or new doc None ≡ combined by (get_or old doc None) (others doc)

-- What documents score by a part was added to their scores.
abbrev pub AddsToEach : (ℕ → Option ℕ) → List (Option ℕ) → List (Option ℕ) → Type 0
AddsToEach = AreCombined Either

-- scores, after what a document scores was added to its score, if there is a place for it
abbrev pub added_at : Option ℕ → ℕ → List (Option ℕ) → List (Option ℕ)
added_at score doc scores = if nat_lt doc (length scores) then set scores doc (either (get_or scores doc None) score) else scores
