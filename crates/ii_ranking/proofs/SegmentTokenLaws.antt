-- The best documents of segments that hold tokens.
use Rattle.std.proofs.Common.{◌≡◌, ◌∙◌, ℕ, zero, suc, ◌+◌, Bool, true, List, [], ◌∷◌, ◌++◌, Option, None, IfOk, Result, Ok, Err, Vec, Global, drop, if◌then◌else◌, length, sym, ap, subst, refl}
use Rattle.ii_io.specs.Faults.{OnlyMemory}
use Rattle.ii_io.specs.declared.faults.Fault.{Fault}
use Rattle.ii_io.specs.declared.faults.Fault.TheVariants.{OutOfMemory}
use Rattle.ii_base.specs.Schema.{SchemaEntry}
use Rattle.ii_alive.specs.Alive.{num_living, rank}
use Rattle.ii_bm25.specs.Statistics.{Statistics}
use Rattle.ii_query_parser.specs.declared.query.Query.{Query}
use Rattle.ii_query_parser.specs.Queries.{has_fields}
use Rattle.ii_reader.specs.OpenIndex.{IndexHolds}
use Rattle.ii_segments.specs.Segments.{Segment, is_living}
use Rattle.ii_segment_search.specs.Searcher.{OpenSegmentState, SegmentHolds, SegmentsHold}
use Rattle.ii_scorer.specs.declared.top_docs.TopDocs.{TopDocs}
use Rattle.ii_ranking.specs.Scores.{query_score, scored_in}
use Rattle.ii_ranking.specs.Segments.{living_score, segment_scored, segments_scored}
use Rattle.ii_ranking.specs.TokenScores.{GivesBest, ScoringFailsForMemory, token_score, tokens_scored}
use Rattle.ii_scorer.specs.TopDocs.{AreBest}
use Rattle.ii_ranking.proofs.TokenLaws.{scores_are_of_tokens}
use Rattle.ii_scorer.proofs.TopLemmas.{scored_alike}

module _ (schema : List SchemaEntry) (statistics : Statistics) (query : Query) (fields : has_fields (length schema) query ≡ true) where
  -- the documents of one segment
  same_segment : (base : ℕ) (o : OpenSegmentState) (s : Segment) → SegmentHolds schema o s → segment_scored base o.alive (query_score (scored_in o.index statistics) query) ≡ segment_scored base s.alive (token_score schema s.tokens statistics query)
  same_segment base o s hold =
      ap (λ (alive : List Bool). segment_scored base alive (query_score (scored_in o.index statistics) query)) hold.alive
      ∙ scored_alike (λ (doc : ℕ). base + rank s.alive doc) (length s.alive) (living_score s.alive (query_score (scored_in o.index statistics) query)) (living_score s.alive (token_score schema s.tokens statistics query))
      (λ doc below. ap (λ (score : Option ℕ). if is_living s.alive doc then score else None) (scores_are_of_tokens schema (length s.alive) o.index s.tokens statistics query doc hold.index fields below))

  -- those of all segments
  pub same_segments : (base : ℕ) (opened : List OpenSegmentState) (ss : List Segment) → SegmentsHold schema opened ss → segments_scored statistics query base opened ≡ tokens_scored schema statistics query base ss
  same_segments base [] [] hold = refl
  same_segments base [] (s ∷ ss) hold = elim hold [ ]
  same_segments base (o ∷ os) [] hold = elim hold [ ]
  same_segments base (o ∷ os) (s ∷ ss) hold =
      let first = same_segment base o s hold.0 in
      let later : segments_scored statistics query (base + num_living o.alive) os ≡ tokens_scored schema statistics query (base + num_living s.alive) ss =
      ap (λ (alive : List Bool). segments_scored statistics query (base + num_living alive) os) hold.0.alive ∙ same_segments (base + num_living s.alive) os ss hold.1 in
      λ j. first j ++ later j

  -- the best of them
  pub gives_best_of_segments : (docs : TopDocs) (opened : List OpenSegmentState) (ss : List Segment) (r : Result (Vec (ℕ × ℕ) Global) Fault) → SegmentsHold schema opened ss
      → IfOk r (λ best. AreBest docs (segments_scored statistics query 0 opened) best.items) → OnlyMemory r → GivesBest docs (tokens_scored schema statistics query 0 ss) r
  gives_best_of_segments docs opened ss (Ok best) hold are memory = subst (λ (row : List (ℕ × ℕ)). AreBest docs row best.items) (same_segments 0 opened ss hold) are
  gives_best_of_segments docs opened ss (Err fault) hold are memory = memory

-- where segments hold tokens, an allocation failure is the only fault of the one at a place
module _ (schema : List SchemaEntry) (query : Query) (fields : has_fields (length schema) query ≡ true) (o : OpenSegmentState) (fault : Fault) (memory : ScoringFailsForMemory query (length o.alive) o.index fault) where
  memory_of_one : (s : Segment) → SegmentHolds schema o s → fault ≡ OutOfMemory
  memory_of_one s h = memory schema s.tokens (subst (λ (alive : List Bool). IndexHolds schema (length alive) o.index s.tokens) (sym h.alive) h.index) fields

  pub memory_of_segments : (place : ℕ) (opened others : List OpenSegmentState) (ss : List Segment) → SegmentsHold schema opened ss → drop place opened ≡ o ∷ others → fault ≡ OutOfMemory
  memory_of_segments zero [] others ss hold at = absurd (cc)
  memory_of_segments (suc place) [] others ss hold at = absurd (cc)
  memory_of_segments place (p ∷ ps) others [] hold at = elim hold [ ]
  memory_of_segments zero (p ∷ ps) others (s ∷ ss) hold at = let same : p ≡ o = cc in memory_of_one s (subst (λ (q : OpenSegmentState). SegmentHolds schema q s) same hold.0)
  memory_of_segments (suc place) (p ∷ ps) others (s ∷ ss) hold at = memory_of_segments place ps others ss hold.1 at
