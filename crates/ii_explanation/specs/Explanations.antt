-- What the score of a document of segments is made of.
use Rattle.std.specs.Prelude.{◌≡◌, ◌≤◌, ℕ, ◌+◌, ◌-◌, true, List, [], ◌∷◌, ◌++◌, Option, None, if◌then◌else◌, nat_lt}
use Rattle.ii_io.specs.declared.faults.Part.{Part}
use Rattle.ii_alive.specs.Alive.{num_living, rank}
use Rattle.ii_bm25.specs.Statistics.{Statistics}
use Rattle.ii_query_parser.specs.declared.query.Query.{Query}
use Rattle.ii_query_parser.specs.Queries.{QueryTree}
use Rattle.ii_segments.specs.Segments.{is_living}
use Rattle.ii_segment_search.specs.Searcher.{OpenSegmentState, total_living}
use Rattle.ii_ranking.specs.Scores.{query_damage, scored_in}
use Rattle.ii_ranking.specs.Shares.{ShareState, tree_shares}

-- These are the shares of the living document with this number: the documents that are alive before it, in its segment and in those before, are so many. If no document has the number, there are none.
pub record AreSharesAt (statistics : Statistics) (q : QueryTree) (segments : List OpenSegmentState) (number : ℕ) (shares : List ShareState) : Type 0 where
  pub here : (before after : List OpenSegmentState) (s : OpenSegmentState) (doc : ℕ) → segments ≡ before ++ s ∷ after → is_living s.alive doc ≡ true → number ≡ total_living before + rank s.alive doc
      → shares ≡ tree_shares (scored_in s.index statistics) q doc
  pub none : total_living segments ≤ number → shares ≡ []

-- the first damaged part of what the shares of the document with this number need: of its segment alone
abbrev pub number_damage : Query → ℕ → List OpenSegmentState → Option Part
number_damage query number [] = None
number_damage query number (s ∷ ss) = if nat_lt number (num_living s.alive) then query_damage s.index query else number_damage query (number - num_living s.alive) ss
