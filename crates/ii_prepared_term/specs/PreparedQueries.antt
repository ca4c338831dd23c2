-- A query that is prepared for ranking: what documents score by it.
use Rattle.std.specs.Prelude.{◌≡◌, ℕ, suc, ◌≤◌, List, [], ◌∷◌, Option, None, get_or, map, max}
use Rattle.std.specs.List.{flat_map}
use Rattle.ii_base.specs.declared.doc_id.TheConstants.{TERMINATED}
use Rattle.ii_scorer.specs.BlockLists.{BlockList}
use Rattle.ii_scorer.specs.Combinations.{add}

-- what each document below `TERMINATED` scores by a prepared query, a bound of that, how deep the query is nested, and the lists of its terms
pub record PreparedQueryState : Type 0 where
  pub scores : List (Option ℕ)
  pub bounds : List ℕ
  pub depth : ℕ
  pub lists : List BlockList

-- what a document scores
abbrev pub prepared_query_score : PreparedQueryState → ℕ → Option ℕ
prepared_query_score s doc = get_or s.scores doc None

-- the bound of what a document scores
abbrev pub prepared_query_bound : PreparedQueryState → ℕ → ℕ
prepared_query_bound s doc = get_or s.bounds doc 0

-- what a document scores by each of some queries
abbrev pub scores_by : List PreparedQueryState → ℕ → List (Option ℕ)
scores_by parts doc = map (λ (s : PreparedQueryState). prepared_query_score s doc) parts

-- the sum of the bounds of a document by some queries, at most 2^64 - 1
abbrev pub bound_under : List PreparedQueryState → ℕ → ℕ
bound_under [] doc = 0
bound_under (s ∷ ss) doc = add (prepared_query_bound s doc) (bound_under ss doc)

-- one more than the depth of the deepest of some queries
abbrev pub depth_under : List PreparedQueryState → ℕ
depth_under [] = 0
depth_under (s ∷ ss) = max (suc s.depth) (depth_under ss)

-- the lists of the terms of some queries, one after the other
abbrev pub lists_under : List PreparedQueryState → List BlockList
lists_under = flat_map (λ (s : PreparedQueryState). s.lists)

-- No document from `TERMINATED` on has a score.
abbrev pub ScoresEnd : (ℕ → Option ℕ) → Type 0
ScoresEnd f = (doc : ℕ) → TERMINATED ≤ doc → f doc ≡ None
