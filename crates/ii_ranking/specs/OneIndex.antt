-- The scores of the documents of segments, as those of one index of their living documents.
use Rattle.std.specs.Prelude.{◌≡◌, ℕ, ◌+◌, ◌≤◌, true, List, ◌∷◌, ◌++◌, length}
use Rattle.std.specs.List.{AllByRecursion}
use Rattle.ii_base.specs.Schema.{SchemaEntry}
use Rattle.ii_alive.specs.Alive.{rank}
use Rattle.ii_bm25.specs.Statistics.{Statistics}
use Rattle.ii_query_parser.specs.declared.query.Query.{Query}
use Rattle.ii_query_parser.specs.Queries.{covers_docs, keeps_positions}
use Rattle.ii_segments.specs.Segments.{AreSegmentTokens, Segment, index_tokens, is_living, num_docs_of}
use Rattle.ii_segment_search.specs.Searcher.{Reaches}
use Rattle.ii_ranking.specs.TokenScores.{token_score, tokens_scored}
use Rattle.ii_scorer.specs.TopDocs.{scored_docs}

-- By the tokens of all segments a living document scores what it scores by those of its own segment.
abbrev pub ScoresAreLocal : Type 0
ScoresAreLocal = (schema : List SchemaEntry) (statistics : Statistics) (query : Query) (before after : List Segment) (s : Segment) (doc n : ℕ)
    → AllByRecursion (AreSegmentTokens schema) (before ++ s ∷ after) → is_living s.alive doc ≡ true → keeps_positions schema query ≡ true
    → num_docs_of (before ++ s ∷ after) ≤ n → length s.alive ≤ n → covers_docs n query ≡ true
    → token_score schema (index_tokens (before ++ s ∷ after)) statistics query (num_docs_of before + rank s.alive doc) ≡ token_score schema s.tokens statistics query doc

-- The documents of segments that have a score, each with it, are those of one index of all tokens.
abbrev pub SegmentsScoreAsOne : Type 0
SegmentsScoreAsOne = (schema : List SchemaEntry) (statistics : Statistics) (query : Query) (ss : List Segment)
    → AllByRecursion (AreSegmentTokens schema) ss → keeps_positions schema query ≡ true → Reaches query ss
    → tokens_scored schema statistics query 0 ss ≡ scored_docs (num_docs_of ss) (token_score schema (index_tokens ss) statistics query)
