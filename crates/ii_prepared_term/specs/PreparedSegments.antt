-- A query that is prepared in each of several segments.
use Rattle.std.specs.Prelude.{ℕ, ◌+◌, Bool, List, [], ◌∷◌, ◌++◌}
use Rattle.ii_alive.specs.Alive.{num_living}
use Rattle.ii_ranking.specs.Segments.{segment_scored}
use Rattle.ii_prepared_term.specs.PreparedQueries.{PreparedQueryState, prepared_query_score}

-- a query that is prepared in a segment, and which of the segment's documents are alive
pub record PreparedSegmentState : Type 0 where
  pub query : PreparedQueryState
  pub alive : List Bool

-- the living documents of segments that have a score by the query, given the number of the first one
abbrev pub prepared_scored : ℕ → List PreparedSegmentState → List (ℕ × ℕ)
prepared_scored base [] = []
prepared_scored base (s ∷ ss) = segment_scored base s.alive (prepared_query_score s.query) ++ prepared_scored (base + num_living s.alive) ss

-- how many documents of segments are alive
abbrev pub prepared_living : List PreparedSegmentState → ℕ
prepared_living [] = 0
prepared_living (s ∷ ss) = num_living s.alive + prepared_living ss
