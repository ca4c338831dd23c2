-- Laws of combined scores.
use Rattle.std.proofs.Common.{◌≡◌, ℕ, ◌<◌, ◌≤◌, List, Option, None, get_or, length}
use Rattle.ii_ranking.specs.declared.combination.Combination.{Combination}
use Rattle.ii_ranking.specs.Combinations.{combined}

-- The scores of the first documents were combined with others.
pub record IsCombining (by : Combination) (others : ℕ → Option ℕ) (k : ℕ) (old new : List (Option ℕ)) : Type 0 where
  pub many : length new ≡ length old
  pub done : (doc : ℕ) → doc < k → doc < length old → get_or new doc None ≡ combined by (get_or old doc None) (others doc)
  pub left : (doc : ℕ) → k ≤ doc → get_or new doc None ≡ get_or old doc None
