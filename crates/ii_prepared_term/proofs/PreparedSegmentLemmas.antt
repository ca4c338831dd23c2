-- Laws of a query that is prepared in segments.
use Rattle.std.proofs.Common.{◌≡◌, ◌∙◌, ℕ, suc, ◌+◌, ◌<◌, ◌≤◌, Bool, List, [], ◌∷◌, ◌++◌, Option, None, append-nil, append_assoc, ap, arith, drop, if◌then◌else◌, length, refl, subst, sym}
use Rattle.std.specs.Prelude.{slice_index_or}
use Rattle.std.proofs.Math.Numerals.{add-one}
use Rattle.std.proofs.Math.Seq.{drop-cons}
use Rattle.ii_alive.specs.Alive.{num_living, rank}
use Rattle.ii_bm25.specs.Statistics.{Statistics}
use Rattle.ii_query_parser.specs.declared.query.Query.{Query}
use Rattle.ii_scorer.specs.TopNComputer.{KeepsBest, TopNState}
use Rattle.ii_scorer.proofs.TopLemmas.{scored_alike}
use Rattle.ii_segment_search.specs.Searcher.{OpenSegmentState}
use Rattle.ii_segments.specs.Segments.{is_living}
use Rattle.ii_ranking.specs.Scores.{query_damage, query_score, scored_in}
use Rattle.ii_ranking.specs.Segments.{living_score, segment_scored}
use Rattle.ii_ranking.proofs.SegmentLemmas.{IsRanking, ranks_one}
use Rattle.ii_prepared_term.specs.PreparedSegments.{PreparedSegmentState, prepared_living, prepared_scored}
use Rattle.ii_prepared_term.specs.PreparedQueries.{prepared_query_score}

-- the documents of one segment
abbrev pub one_scored : ℕ → PreparedSegmentState → List (ℕ × ℕ)
one_scored base s = segment_scored base s.alive (prepared_query_score s.query)

-- ---- one segment more
pub scored_pushed : (base : ℕ) (ss : List PreparedSegmentState) (s : PreparedSegmentState) → prepared_scored base (ss ++ s ∷ []) ≡ prepared_scored base ss ++ one_scored (base + prepared_living ss) s
scored_pushed base [] s = let number : base ≡ base + 0 = omega arith in append-nil (one_scored base s) ∙ ap (λ (n : ℕ). one_scored n s) number
scored_pushed base (t ∷ ts) s =
    let number : base + num_living t.alive + prepared_living ts ≡ base + (num_living t.alive + prepared_living ts) = omega arith in
    ap (λ (row : List (ℕ × ℕ)). one_scored base t ++ row) (scored_pushed (base + num_living t.alive) ts s ∙ ap (λ (n : ℕ). prepared_scored (base + num_living t.alive) ts ++ one_scored n s) number)
    ∙ sym (append_assoc (one_scored base t) (prepared_scored (base + num_living t.alive) ts) (one_scored (base + (num_living t.alive + prepared_living ts)) s))

pub living_pushed : (ss : List PreparedSegmentState) (s : PreparedSegmentState) → prepared_living (ss ++ s ∷ []) ≡ prepared_living ss + num_living s.alive
living_pushed [] s = omega arith
living_pushed (t ∷ ts) s = let later = living_pushed ts s in omega (arith, later)

-- the documents of a segment that is prepared are those that have a score by the query
same_scored : (statistics : Statistics) (query : Query) (base : ℕ) (o : OpenSegmentState) (s : PreparedSegmentState) → s.alive ≡ o.alive → ((doc : ℕ) → prepared_query_score s.query doc ≡ query_score (scored_in o.index statistics) query doc)
    → one_scored base s ≡ segment_scored base o.alive (query_score (scored_in o.index statistics) query)
same_scored statistics query base o s alive scores =
    scored_alike (λ (doc : ℕ). base + rank s.alive doc) (length s.alive) (living_score s.alive (prepared_query_score s.query)) (living_score s.alive f) (λ doc below. ap (λ (score : Option ℕ). if is_living s.alive doc then score else None) (scores doc))
    ∙ ap (λ (flags : List Bool). segment_scored base flags f) alive
  where
    f : ℕ → Option ℕ
    f = query_score (scored_in o.index statistics) query

-- what was prepared so far, in front of what is left, is all
module _ (statistics : Statistics) (query : Query) (all left others : List OpenSegmentState) (o : OpenSegmentState) (ss : List PreparedSegmentState) (s : PreparedSegmentState) where
  pub prepares_one : IsRanking statistics query all left (prepared_living ss) (prepared_scored 0 ss) → left ≡ o ∷ others → s.alive ≡ o.alive → ((doc : ℕ) → prepared_query_score s.query doc ≡ query_score (scored_in o.index statistics) query doc)
      → query_damage o.index query ≡ None → IsRanking statistics query all others (prepared_living (ss ++ s ∷ [])) (prepared_scored 0 (ss ++ s ∷ []))
  prepares_one r at alive scores sound =
      let number : 0 + prepared_living ss ≡ prepared_living ss = omega arith in
      subst (λ (n : ℕ). IsRanking statistics query all others n (prepared_scored 0 (ss ++ s ∷ []))) (ap (λ (flags : List Bool). prepared_living ss + num_living flags) (sym alive) ∙ sym (living_pushed ss s))
      (ranks_one statistics query all left others o (prepared_living ss) (prepared_scored 0 ss) (prepared_scored 0 (ss ++ s ∷ [])) r at
      (scored_pushed 0 ss s ∙ ap (λ (n : ℕ). prepared_scored 0 ss ++ one_scored n s) number ∙ ap (λ (row : List (ℕ × ℕ)). prepared_scored 0 ss ++ row) (same_scored statistics query (prepared_living ss) o s alive scores))
      sound)

-- ---- what was added so far
-- The best are kept of the documents of the segments before the ones that are left.
pub record AddsSegments (all left : List PreparedSegmentState) (base : ℕ) (old new : TopNState) : Type 0 where
  pub done : List (ℕ × ℕ)
  pub done_is : done ++ prepared_scored base left ≡ prepared_scored 0 all
  pub few : base + prepared_living left ≡ prepared_living all
  pub kept : (scored : List (ℕ × ℕ)) → KeepsBest scored old → KeepsBest (scored ++ done) new

-- a segment at a place
pub at_place : (all : List PreparedSegmentState) (i : ℕ) (s : PreparedSegmentState) → i < length all → s ≡ slice_index_or all i s → drop i all ≡ s ∷ drop (i + 1) all
at_place all i s inside is = drop-cons all i s inside ∙ ap (λ (t : PreparedSegmentState). t ∷ drop (suc i) all) (sym is) ∙ ap (λ (n : ℕ). s ∷ drop n all) (sym (add-one i))

module _ (all : List PreparedSegmentState) (i base : ℕ) (s : PreparedSegmentState) (old now : TopNState) (inside : i < length all) (is : s ≡ slice_index_or all i s) (adds : AddsSegments all (drop i all) base old now) where
  at : drop i all ≡ s ∷ drop (i + 1) all
  at = at_place all i s inside is

  pub next_few : base + num_living s.alive ≤ prepared_living all
  next_few = let few = adds.few in let here = ap prepared_living at in omega (arith, few, here)

  pub adds_one : (new : TopNState) → ((scored : List (ℕ × ℕ)) → KeepsBest scored now → KeepsBest (scored ++ one_scored base s) new) → AddsSegments all (drop (i + 1) all) (base + num_living s.alive) old new
  adds_one new kept =
      let later = prepared_scored (base + num_living s.alive) (drop (i + 1) all) in
      record {
        done = adds.done ++ one_scored base s;
        done_is = append_assoc adds.done (one_scored base s) later ∙ ap (λ (ss : List PreparedSegmentState). adds.done ++ prepared_scored base ss) (sym at) ∙ adds.done_is;
        few = let few = adds.few in let here = ap prepared_living at in omega (arith, few, here);
        kept = λ scored h. subst (λ (row : List (ℕ × ℕ)). KeepsBest row new) (append_assoc scored adds.done (one_scored base s)) (kept (scored ++ adds.done) (adds.kept scored h));
      }

pub adds_none : (all : List PreparedSegmentState) (s : TopNState) → AddsSegments all all 0 s s
adds_none all s = record { done = []; done_is = refl; few = omega arith; kept = λ scored h. subst (λ (row : List (ℕ × ℕ)). KeepsBest row s) (sym (append-nil scored)) h }

pub adds_all : (all left : List PreparedSegmentState) (base : ℕ) (old new : TopNState) → AddsSegments all left base old new → left ≡ [] → (scored : List (ℕ × ℕ)) → KeepsBest scored old → KeepsBest (scored ++ prepared_scored 0 all) new
adds_all all left base old new adds none scored h =
    subst (λ (row : List (ℕ × ℕ)). KeepsBest (scored ++ row) new) (sym (append-nil adds.done) ∙ ap (λ (ss : List PreparedSegmentState). adds.done ++ prepared_scored base ss) (sym none) ∙ adds.done_is) (adds.kept scored h)
