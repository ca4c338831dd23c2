-- Laws of scorers that are opened query by query.
use Rattle.std.proofs.Common.{◌≡◌, ℕ, true, List, ◌++◌, length}
use Rattle.std.specs.List.{list_all}
use Rattle.ii_query_parser.specs.declared.query.Query.{Query}
use Rattle.ii_query_parser.specs.Queries.{has_fields, trees_of}
use Rattle.ii_reader.specs.OpenIndex.{OpenIndexState}
use Rattle.ii_scorer.specs.Scorers.{ScorerState, scores_at}
use Rattle.ii_ranking.specs.Scores.{Scored, tree_scores, trees_damage}

-- The scorers so far, with the queries that are left, are those of all.
pub record IsOpening (s : Scored) (index : OpenIndexState) (all left : List Query) (scorers : List ScorerState) : Type 0 where
  pub scores : (doc : ℕ) → scores_at scorers doc ++ tree_scores s (trees_of left) doc ≡ tree_scores s (trees_of all) doc
  pub sound : trees_damage index (trees_of left) ≡ trees_damage index (trees_of all)
  pub fields : list_all (has_fields (length index.readers)) left ≡ true
