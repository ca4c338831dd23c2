-- Open segments that hold an index, and the numbers of its documents.
use Rattle.std.specs.Prelude.{◌≡◌, ℕ, List, Option, Some, length, map, sum, Result, Ok, Err, Vec}
use Rattle.std.specs.Global.{Global}
use Rattle.std.specs.List.{range_with_len}
use Rattle.ii_io.specs.declared.faults.Fault.{Fault}
use Rattle.ii_io.specs.declared.faults.Fault.TheVariants.{OutOfMemory}
use Rattle.ii_io.specs.declared.faults.Part.{Part}
use Rattle.ii_base.specs.Schema.{SchemaEntry}
use Rattle.ii_base.specs.Terms.{TermState}
use Rattle.ii_definitions.specs.Tokens.{IndexToken}
use Rattle.ii_query_parser.specs.declared.query.Query.{Query}
use Rattle.ii_explanation.specs.Explanations.{number_damage}
use Rattle.ii_ranking.specs.Scores.{first_of}
use Rattle.ii_ranking.specs.Segments.{segments_damage}
use Rattle.ii_ranking.specs.Shares.{share_of, total}
use Rattle.ii_ranking.specs.declared.shares.Share.{Share}
use Rattle.ii_segment_search.specs.Searcher.{SegmentsHold}
use Rattle.ii_segments.specs.Segments.{Segment, living_counts}
use Rattle.ii_index.specs.Searching.{SearcherState}
use Rattle.ii_index.specs.Segments.{HaveTokens}
use Rattle.ii_index.specs.Statistics.{num_docs_with, statistics_damage}

-- the numbers of tokens that the living documents of a segment have in each of n fields
abbrev pub segment_counts : ℕ → Segment → Result (List ℕ) Part
segment_counts n s = Ok (map (λ (field : ℕ). sum (living_counts field s)) (range_with_len 0 n))

-- Open segments hold an index of this number of documents, with these tokens.
pub record SearcherHolds (entries : List SchemaEntry) (searcher : SearcherState) (n : ℕ) (ts : List IndexToken) : Type 0 where
  pub segments : List Segment
  pub hold : SegmentsHold entries searcher.segments segments
  pub have : HaveTokens n ts segments
  pub counts : searcher.num_tokens ≡ map (segment_counts (length entries)) segments

-- A number is that of the documents that have a term; it fails only with OutOfMemory.
abbrev pub CountsDocs : ℕ → List IndexToken → TermState → Result ℕ Fault → Type 0
CountsDocs n ts term (Ok m) = m ≡ num_docs_with n ts term
CountsDocs n ts term (Err fault) = fault ≡ OutOfMemory

-- the first damaged part of what the best documents of a query need: of the numbers for it, then of what its scores need
abbrev pub best_damage : SearcherState → Query → Option Part
best_damage s query = first_of (statistics_damage s query) (segments_damage query s.segments)

-- A search of these documents with their scores is prepared; this fails only with OutOfMemory.
abbrev pub Prepares : List (ℕ × ℕ) → Result (List (ℕ × ℕ)) Fault → Type 0
Prepares scored (Ok prepared) = prepared ≡ scored
Prepares scored (Err fault) = fault ≡ OutOfMemory

-- the first damaged part of what the shares of the document with a number need: of the numbers for the query, then of the document's segment
abbrev pub shares_damage : SearcherState → Query → ℕ → Option Part
shares_damage s query number = first_of (statistics_damage s query) (number_damage query number s.segments)

-- Shares add up to a score; an explanation fails only with OutOfMemory.
abbrev pub AddUpTo : ℕ → Result (Vec Share Global) Fault → Type 0
AddUpTo score (Ok shares) = total (map share_of shares.items) ≡ Some score
AddUpTo score (Err fault) = fault ≡ OutOfMemory
