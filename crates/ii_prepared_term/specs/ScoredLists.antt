-- The documents that match a query, listed with their scores.
use Rattle.std.specs.Prelude.{ℕ, ◌^◌, ◌<◌, ◌≤◌, List, Option, get_or, length, map}
use Rattle.std.specs.Option.{option_map}
use Rattle.ii_base.specs.Entries.{Entry, counted}
use Rattle.ii_docset.specs.Cursor.{IsAscending}
use Rattle.ii_ranking.specs.LeafScorers.{leaf_of}
use Rattle.ii_ranking.specs.Scores.{entry_at}
use Rattle.ii_scorer.specs.Scorers.{ScorerState}

-- documents with their scores, as entries whose term frequency is the score
abbrev pub entries_of : List (ℕ × ℕ) → List Entry
entries_of docs = map (λ (d : ℕ × ℕ). counted d.1 d.0) docs

-- the documents of a list that weren't passed, and a score that none exceeds
pub record ScoredListState : Type 0 where
  pub rest : List Entry
  pub most : ℕ

-- what a document scores by such a list
abbrev pub listed_score : ScoredListState → ℕ → Option ℕ
listed_score s doc = option_map (λ (e : Entry). e.term_freq) (entry_at s.rest doc)

-- the same as a scorer
abbrev pub listed_state : ScoredListState → ScorerState
listed_state s = leaf_of (listed_score s) s.most

-- Documents ascend, and none scores more than this.
pub record IsScoredList (docs : List (ℕ × ℕ)) (most : ℕ) : Type 0 where
  pub ascending : IsAscending (entries_of docs)
  pub up_to : (k : ℕ) → k < length docs → (get_or docs k (0, 0)).0 ≤ most
  pub fits : most < 2 ^ 64
