-- What a query matches in an index of segments.
use Rattle.std.specs.Prelude.{◌≡◌, ℕ, ◌+◌, ◌≤◌, true, List, [], ◌∷◌, ◌++◌, filter, length, map}
use Rattle.std.specs.List.{AllByRecursion, range_with_len}
use Rattle.ii_base.specs.Schema.{SchemaEntry}
use Rattle.ii_alive.specs.Alive.{num_living, rank}
use Rattle.ii_query_parser.specs.declared.query.Query.{Query}
use Rattle.ii_query_parser.specs.Queries.{covers_docs, matches}
use Rattle.ii_segments.specs.Segments.{AreSegmentTokens, Segment, index_tokens, is_living, living_docs, num_docs_of}

-- A query matches a living document in an index of segments exactly if it matches it in its segment, by the segment's number.
abbrev pub SearchIsLocal : Type 0
SearchIsLocal = (entries : List SchemaEntry) (query : Query) (before after : List Segment) (s : Segment) (doc n : ℕ)
    → AllByRecursion (AreSegmentTokens entries) (before ++ s ∷ after) → is_living s.alive doc ≡ true
    → num_docs_of (before ++ s ∷ after) ≤ n → length s.alive ≤ n → covers_docs n query ≡ true
    → matches query (index_tokens (before ++ s ∷ after)) (num_docs_of before + rank s.alive doc) ≡ matches query s.tokens doc

-- the living documents of segments that match a query, given the number of the first living document
abbrev pub found_in_segments : Query → ℕ → List Segment → List ℕ
found_in_segments query base [] = []
found_in_segments query base (s ∷ ss) =
    map (λ (doc : ℕ). base + rank s.alive doc) (filter (matches query s.tokens) (living_docs s.alive)) ++ found_in_segments query (base + num_living s.alive) ss

-- The documents that match a query are those of each segment, one after the other.
abbrev pub FindsInSegments : Type 0
FindsInSegments = (entries : List SchemaEntry) (query : Query) (ss : List Segment) (n : ℕ)
    → AllByRecursion (AreSegmentTokens entries) ss → num_docs_of ss ≤ n → AllByRecursion (λ (s : Segment). length s.alive ≤ n) ss → covers_docs n query ≡ true
    → filter (matches query (index_tokens ss)) (range_with_len 0 (num_docs_of ss)) ≡ found_in_segments query 0 ss
