-- The scores of the documents of an index that holds tokens.
use Rattle.std.specs.Prelude.{◌≡◌, ℕ, ◌+◌, ◌<◌, true, List, [], ◌∷◌, ◌++◌, Option, Result, Ok, Err, Vec, length, map}
use Rattle.std.specs.Global.{Global}
use Rattle.std.specs.List.{range_with_len}
use Rattle.ii_io.specs.declared.faults.Fault.{Fault}
use Rattle.ii_io.specs.declared.faults.Fault.TheVariants.{OutOfMemory}
use Rattle.ii_base.specs.Schema.{SchemaEntry}
use Rattle.ii_alive.specs.Alive.{num_living}
use Rattle.ii_bm25.specs.Statistics.{Statistics}
use Rattle.ii_definitions.specs.Tokens.{IndexToken}
use Rattle.ii_query_parser.specs.declared.query.Query.{Query}
use Rattle.ii_query_parser.specs.Queries.{has_fields}
use Rattle.ii_reader.specs.OpenIndex.{IndexHolds, OpenIndexState}
use Rattle.ii_segments.specs.Segments.{Segment}
use Rattle.ii_scorer.specs.declared.top_docs.TopDocs.{TopDocs}
use Rattle.ii_ranking.specs.Scores.{query_score, scored_by_tokens, scored_in}
use Rattle.ii_ranking.specs.Segments.{segment_scored}
use Rattle.ii_scorer.specs.TopDocs.{AreBest}

-- what a document scores by a query, from the tokens alone
abbrev pub token_score : List SchemaEntry → List IndexToken → Statistics → Query → ℕ → Option ℕ
token_score schema tokens statistics query = query_score (scored_by_tokens schema tokens statistics) query

-- Where an index holds tokens, each of its documents scores what it scores by the tokens.
abbrev pub ScoresAreOfTokens : Type 0
ScoresAreOfTokens = (schema : List SchemaEntry) (num_docs : ℕ) (index : OpenIndexState) (tokens : List IndexToken) (statistics : Statistics) (query : Query) (doc : ℕ)
    → IndexHolds schema num_docs index tokens → has_fields (length schema) query ≡ true → doc < num_docs
    → query_score (scored_in index statistics) query doc ≡ token_score schema tokens statistics query doc

-- The documents below a number score this; it fails only with `OutOfMemory`.
abbrev pub GivesScores : ℕ → (ℕ → Option ℕ) → Result (Vec (Option ℕ) Global) Fault → Type 0
GivesScores num_docs score_of (Ok scores) = scores.items ≡ map score_of (range_with_len 0 num_docs)
GivesScores num_docs score_of (Err fault) = fault ≡ OutOfMemory

-- The best of these documents are found; a search fails only with `OutOfMemory`.
abbrev pub GivesBest : TopDocs → List (ℕ × ℕ) → Result (Vec (ℕ × ℕ) Global) Fault → Type 0
GivesBest docs scored (Ok best) = AreBest docs scored best.items
GivesBest docs scored (Err fault) = fault ≡ OutOfMemory

-- Where an index holds tokens of so many documents, a fault is `OutOfMemory`.
abbrev pub ScoringFailsForMemory : Query → ℕ → OpenIndexState → Fault → Type 0
ScoringFailsForMemory query num_docs index fault = (schema : List SchemaEntry) (tokens : List IndexToken) → IndexHolds schema num_docs index tokens → has_fields (length schema) query ≡ true → fault ≡ OutOfMemory

-- the living documents of segments that have a score by the tokens of their segment, given the number of the first one
abbrev pub tokens_scored : List SchemaEntry → Statistics → Query → ℕ → List Segment → List (ℕ × ℕ)
tokens_scored schema statistics query base [] = []
tokens_scored schema statistics query base (s ∷ ss) =
    segment_scored base s.alive (token_score schema s.tokens statistics query) ++ tokens_scored schema statistics query (base + num_living s.alive) ss
