-- The best documents of segments, by the tokens of all of them.
use Rattle.std.proofs.Common.{◌≡◌, ℕ, true, List, [], ◌∷◌, Vec, Global, Result, Ok, Err, IfErr, subst}
use Rattle.std.specs.List.{AllByRecursion}
use Rattle.ii_io.specs.declared.faults.Fault.{Fault}
use Rattle.ii_io.specs.declared.faults.Fault.TheVariants.{OutOfMemory}
use Rattle.ii_base.specs.Schema.{SchemaEntry}
use Rattle.ii_bm25.specs.Statistics.{Statistics}
use Rattle.ii_query_parser.specs.declared.query.Query.{Query}
use Rattle.ii_segments.specs.Segments.{AreSegmentTokens, Segment, index_tokens, num_docs_of}
use Rattle.ii_segments.proofs.MergedLaws.{merged_is_segment}
use Rattle.ii_segment_search.specs.Searcher.{MayAsk, OpenSegmentState, Reaches, SegmentsHold}
use Rattle.ii_ranking.specs.OneIndex.{SegmentsScoreAsOne}
use Rattle.ii_ranking.specs.TokenCounts.{AreOrdered}
use Rattle.ii_ranking.specs.TokenScores.{GivesBest, token_score, tokens_scored}
use Rattle.ii_scorer.specs.TopDocs.{scored_docs}
use Rattle.ii_scorer.specs.declared.top_docs.TopDocs.{TopDocs}

module _ (schema : List SchemaEntry) where
  each_token : (opened : List OpenSegmentState) (ss : List Segment) → SegmentsHold schema opened ss → AllByRecursion (AreSegmentTokens schema) ss
  each_token [] [] hold = tt
  each_token [] (s ∷ ss) hold = elim hold [ ]
  each_token (o ∷ os) [] hold = elim hold [ ]
  each_token (o ∷ os) (s ∷ ss) hold = (hold.0.tokens, each_token os ss hold.1)

  -- the tokens of all segments are in the order of documents
  pub all_ordered : (opened : List OpenSegmentState) (ss : List Segment) → SegmentsHold schema opened ss → AreOrdered (index_tokens ss)
  all_ordered opened ss hold = (merged_is_segment schema ss (each_token opened ss hold)).ordered

  -- what is best by the tokens of each segment is best by the tokens of all
  pub best_of_all : (law : SegmentsScoreAsOne) (st : Statistics) (query : Query) (docs : TopDocs) (opened : List OpenSegmentState) (ss : List Segment) (r : Result (Vec (ℕ × ℕ) Global) Fault)
      → SegmentsHold schema opened ss → MayAsk schema query → Reaches query ss → GivesBest docs (tokens_scored schema st query 0 ss) r → GivesBest docs (scored_docs (num_docs_of ss) (token_score schema (index_tokens ss) st query)) r
  best_of_all law st query docs opened ss r hold ask reaches = subst (λ (row : List (ℕ × ℕ)). GivesBest docs row r) (law schema st query ss (each_token opened ss hold) ask.positions reaches)

-- nothing but memory is refused
pub memory_of_best : (docs : TopDocs) (scored : List (ℕ × ℕ)) (r : Result (Vec (ℕ × ℕ) Global) Fault) → GivesBest docs scored r → IfErr r (λ e. e ≡ OutOfMemory)
memory_of_best docs scored (Ok best) gives = tt
memory_of_best docs scored (Err fault) gives = gives
