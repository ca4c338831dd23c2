-- Laws of the best documents of several segments.
use Rattle.std.proofs.Common.{◌≡◌, ◌∙◌, IfErr, Result, Ok, Err, ℕ, suc, ◌+◌, ◌<◌, ◌≤◌, inl, inr, Bool, true, List, [], ◌∷◌, ◌++◌, Option, None, append_assoc, drop, get_or, if◌then◌else◌, length, map, sym, ap, arith}
use Rattle.std.specs.List.{range_with_len}
use Rattle.std.proofs.Math.Numerals.{add-one}
use Rattle.std.proofs.Math.Seq.{drop-cons}
use Rattle.std.proofs.lemmas.List.{append-nil, get_or-map, length-map, take_all}
use Rattle.std.proofs.lemmas.List.FromFn.{get_or-map-range_with_len}
use Rattle.ii_io.specs.declared.faults.Fault.{Fault}
use Rattle.ii_io.specs.declared.faults.Part.{Part}
use Rattle.ii_alive.specs.Alive.{num_living, rank}
use Rattle.ii_alive.proofs.RankLemmas.{rank_mono}
use Rattle.ii_bm25.specs.Statistics.{Statistics}
use Rattle.ii_query_parser.specs.declared.query.Query.{Query}
use Rattle.ii_query_parser.specs.Queries.{has_fields}
use Rattle.ii_segments.specs.Segments.{is_living}
use Rattle.ii_segment_search.specs.Searcher.{HaveFields, OpenSegmentState, total_living}
use Rattle.ii_ranking.specs.declared.segments.RankedSegment.{RankedSegment}
use Rattle.ii_ranking.specs.Scores.{IsScoreFault, first_of, query_damage, query_score, scored_in}
use Rattle.ii_ranking.specs.Segments.{living_row, living_score, segment_of, segment_scored, segments_damage, segments_scored}
use Rattle.ii_scorer.specs.TopNComputer.{KeepsBest, TopNState}
use Rattle.ii_scorer.proofs.TopLemmas.{scored_alike}

-- the living documents of a list of scores
pub rows_scored : (base : ℕ) (alive : List Bool) (f : ℕ → Option ℕ) (scores : List (Option ℕ)) → scores ≡ map f (range_with_len 0 (length alive)) → living_row base alive (length alive) scores ≡ segment_scored base alive f
rows_scored base alive f scores is =
    scored_alike (λ (doc : ℕ). base + rank alive doc) (length alive) (λ (doc : ℕ). if is_living alive doc then get_or scores doc None else None) (living_score alive f)
    (λ doc below. ap (λ (score : Option ℕ). if is_living alive doc then score else None) (ap (λ (row : List (Option ℕ)). get_or row doc None) is ∙ get_or-map-range_with_len f 0 (length alive) doc doc None below (omega arith)))

-- What was found so far, in front of what is found in the segments that are left, is all.
pub record IsRanking (statistics : Statistics) (query : Query) (all left : List OpenSegmentState) (base : ℕ) (scored : List (ℕ × ℕ)) : Type 0 where
  pub scored_is : scored ++ segments_scored statistics query base left ≡ segments_scored statistics query 0 all
  pub few : base + total_living left ≡ total_living all
  pub sound : segments_damage query left ≡ segments_damage query all
  pub fields : HaveFields query left

-- one segment more
-- The best are kept of the documents of the segments before the ones that are left.
pub record KeepsRanking (statistics : Statistics) (query : Query) (all left : List OpenSegmentState) (base : ℕ) (s : TopNState) : Type 0 where
  pub scored : List (ℕ × ℕ)
  pub ranking : IsRanking statistics query all left base scored
  pub kept : KeepsBest scored s

pub ranks_one : (statistics : Statistics) (query : Query) (all left others : List OpenSegmentState) (s : OpenSegmentState) (base : ℕ) (scored more : List (ℕ × ℕ)) → IsRanking statistics query all left base scored → left ≡ s ∷ others
    → more ≡ scored ++ segment_scored base s.alive (query_score (scored_in s.index statistics) query) → query_damage s.index query ≡ None → IsRanking statistics query all others (base + num_living s.alive) more
ranks_one statistics query all left others s base scored more r is more_is sound = record {
  scored_is = ap (λ (row : List (ℕ × ℕ)). row ++ segments_scored statistics query (base + num_living s.alive) others) more_is
      ∙ append_assoc scored (segment_scored base s.alive (query_score (scored_in s.index statistics) query)) (segments_scored statistics query (base + num_living s.alive) others)
      ∙ ap (λ (ss : List OpenSegmentState). scored ++ segments_scored statistics query base ss) (sym is) ∙ r.scored_is;
  few = let few = r.few in let here = ap total_living is in omega (arith, few, here);
  sound = ap (λ (d : Option Part). first_of d (segments_damage query others)) (sym sound) ∙ ap (segments_damage query) (sym is) ∙ r.sound;
  fields = (fields_next r.fields is).1;
}
  where
    fields_next : HaveFields query left → left ≡ s ∷ others → (has_fields (length s.index.readers) query ≡ true) × HaveFields query others
    fields_next fields at = rw at at fields

-- the fields and the number of the next segment
pub next_segment : (statistics : Statistics) (query : Query) (all left others : List OpenSegmentState) (s : OpenSegmentState) (base : ℕ) (scored : List (ℕ × ℕ)) → IsRanking statistics query all left base scored → left ≡ s ∷ others
    → (has_fields (length s.index.readers) query ≡ true) × (base + num_living s.alive ≤ total_living all)
next_segment statistics query all left others s base scored r is =
    ((rw is at r.fields).0, let few = r.few in let here = ap total_living is in omega (arith, few, here))

-- a segment that is refused
pub ranking_refused : (statistics : Statistics) (query : Query) (all left others : List OpenSegmentState) (s : OpenSegmentState) (base : ℕ) (scored : List (ℕ × ℕ)) (fault : Fault) → IsRanking statistics query all left base scored → left ≡ s ∷ others
    → IsScoreFault (query_damage s.index query) fault → IsScoreFault (segments_damage query all) fault
ranking_refused statistics query all left others s base scored fault r is (inl memory) = inl memory
ranking_refused statistics query all left others s base scored fault r is (inr (part, told, damage)) =
    inr (part, told, sym r.sound ∙ ap (segments_damage query) is ∙ ap (λ (d : Option Part). first_of d (segments_damage query others)) damage)

pub ranks_all : (statistics : Statistics) (query : Query) (all left : List OpenSegmentState) (base : ℕ) (scored : List (ℕ × ℕ)) → IsRanking statistics query all left base scored → left ≡ [] → (scored ≡ segments_scored statistics query 0 all) × (segments_damage query all ≡ None)
ranks_all statistics query all left base scored r none = (
  sym (append-nil scored) ∙ ap (λ (ss : List OpenSegmentState). scored ++ segments_scored statistics query base ss) (sym none) ∙ r.scored_is,
  sym r.sound ∙ ap (segments_damage query) none,
)

-- a place among the segments
pub segment_at : (segments : List RankedSegment) (i : ℕ) (s : RankedSegment) → i < length segments → s ≡ get_or segments i s → drop i (map segment_of segments) ≡ segment_of s ∷ drop (i + 1) (map segment_of segments)
segment_at segments i s inside is =
    let many = length-map segments segment_of in
    drop-cons (map segment_of segments) i (segment_of s) (omega (arith, many, inside))
    ∙ ap (λ (t : OpenSegmentState). t ∷ drop (suc i) (map segment_of segments)) (get_or-map segment_of segments i s (segment_of s) inside ∙ ap segment_of (sym is))
    ∙ ap (λ (n : ℕ). segment_of s ∷ drop n (map segment_of segments)) (sym (add-one i))

-- as many documents before another one are alive as in all, at most
pub rank_within : (alive : List Bool) (doc : ℕ) → rank alive doc ≤ num_living alive
rank_within alive doc =
    let low = rank_mono alive doc (doc + length alive) (omega arith) in
    let all : rank alive (doc + length alive) ≡ num_living alive = ap num_living (take_all (doc + length alive) alive (omega arith)) in
    omega (arith, low, all)

-- what follows from a fault
pub err_then : {A : Type 0} {P Q : Fault → Type 0} (r : Result A Fault) → IfErr r P → ((fault : Fault) → P fault → Q fault) → IfErr r Q
err_then (Ok x) holds next = tt
err_then (Err fault) holds next = next fault holds
