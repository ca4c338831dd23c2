-- The best documents of several segments.
use Rattle.std.specs.Prelude.{ℕ, ◌+◌, Bool, List, [], ◌∷◌, ◌++◌, Option, None, get_or, if◌then◌else◌, length}
use Rattle.ii_io.specs.declared.faults.Part.{Part}
use Rattle.ii_alive.specs.Alive.{num_living, rank}
use Rattle.ii_bm25.specs.Statistics.{Statistics}
use Rattle.ii_query_parser.specs.declared.query.Query.{Query}
use Rattle.ii_segments.specs.Segments.{is_living}
use Rattle.ii_segment_search.specs.Searcher.{OpenSegmentState}
use Rattle.ii_ranking.specs.declared.segments.RankedSegment.{RankedSegment}
use Rattle.ii_ranking.specs.Scores.{first_of, query_damage, query_score, scored_in}
use Rattle.ii_scorer.specs.TopDocs.{scored_by_number}

-- a segment without its references
abbrev pub segment_of : RankedSegment → OpenSegmentState
segment_of s = record { index = s.index.now; alive = s.alive.now }

-- what a document scores, if it is alive
abbrev pub living_score : List Bool → (ℕ → Option ℕ) → ℕ → Option ℕ
living_score alive score_of doc = if is_living alive doc then score_of doc else None

-- the living documents of a segment that have a score, given the number of the first one
abbrev pub segment_scored : ℕ → List Bool → (ℕ → Option ℕ) → List (ℕ × ℕ)
segment_scored base alive score_of = scored_by_number (λ (doc : ℕ). base + rank alive doc) (length alive) (living_score alive score_of)

-- the first living documents that have a score in a list, given the number of the first one
abbrev pub living_row : ℕ → List Bool → ℕ → List (Option ℕ) → List (ℕ × ℕ)
living_row base alive n scores = scored_by_number (λ (doc : ℕ). base + rank alive doc) n (λ (doc : ℕ). if is_living alive doc then get_or scores doc None else None)

-- those of segments, one after the other
abbrev pub segments_scored : Statistics → Query → ℕ → List OpenSegmentState → List (ℕ × ℕ)
segments_scored statistics query base [] = []
segments_scored statistics query base (s ∷ ss) = segment_scored base s.alive (query_score (scored_in s.index statistics) query) ++ segments_scored statistics query (base + num_living s.alive) ss

-- the first damage of what the scores of a query need, segment by segment
abbrev pub segments_damage : Query → List OpenSegmentState → Option Part
segments_damage query [] = None
segments_damage query (s ∷ ss) = first_of (query_damage s.index query) (segments_damage query ss)
