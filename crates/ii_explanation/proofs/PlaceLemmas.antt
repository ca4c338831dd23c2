-- The document with a number, and its shares.
use Rattle.std.proofs.Common.{◌≡◌, ◌∙◌, ℕ, zero, suc, ◌+◌, ◌-◌, ◌<◌, ◌≤◌, inl, inr, Bool, true, false, List, [], ◌∷◌, ◌++◌, Option, None, Some, Result, Ok, Err, Vec, Global, IfErr, IfOk, add-one, ap, append_assoc, arith, drop, get_or, if◌then◌else◌, length, map, nat_lt, refl, subst, sym, take}
use Rattle.std.proofs.Math.Seq.{take-suc}
use Rattle.std.specs.List.{All, Contains}
use Rattle.std.proofs.lemmas.Bool.{le-ltb, lt-ltb, ltb-false, ltb-true}
use Rattle.std.proofs.lemmas.List.{get_or-map, length-map, take-append-drop}
use Rattle.std.proofs.lemmas.List.Elements.{All-append, All-contains, All-from_recursion, All-nil}
use Rattle.ii_alive.specs.Alive.{num_living, rank}
use Rattle.ii_alive.proofs.RankLemmas.{rank_below, rank_strict}
use Rattle.ii_io.specs.Faults.{OnlyMemory}
use Rattle.ii_io.specs.declared.faults.Fault.{Fault}
use Rattle.ii_io.specs.declared.faults.Fault.TheVariants.{OutOfMemory}
use Rattle.ii_io.specs.declared.faults.Part.{Part}
use Rattle.ii_bm25.specs.Statistics.{Statistics}
use Rattle.ii_query_parser.specs.declared.query.Query.{Query}
use Rattle.ii_query_parser.specs.Queries.{QueryTree, has_fields, tree_of}
use Rattle.ii_ranking.specs.Scores.{IsScoreFault, first_of, query_damage, query_score, scored_in}
use Rattle.ii_ranking.specs.Segments.{living_score, segment_of, segment_scored, segments_damage, segments_scored}
use Rattle.ii_ranking.specs.declared.segments.RankedSegment.{RankedSegment}
use Rattle.ii_ranking.specs.declared.shares.Share.{Share}
use Rattle.ii_ranking.specs.Shares.{ShareState, share_of, total, tree_shares}
use Rattle.ii_scorer.specs.TopDocs.{scored_by_number, with_score}
use Rattle.ii_ranking.proofs.SegmentLemmas.{segment_at}
use Rattle.ii_ranking.proofs.ShareLemmas.{shares_add_up}
use Rattle.ii_ranking.proofs.TokenLaws.{memory_of_none}
use Rattle.ii_scorer.proofs.TopLemmas.{scored_more}
use Rattle.ii_segments.specs.Segments.{is_living}
use Rattle.ii_segment_search.specs.Searcher.{HaveFields, OpenSegmentState, total_living}
use Rattle.ii_segment_search.proofs.SearchLemmas.{total_more}
use Rattle.ii_explanation.specs.Explanations.{AreSharesAt, number_damage}

-- living documents with the same rank are the same
same_doc : (alive : List Bool) (a b : ℕ) → is_living alive a ≡ true → is_living alive b ≡ true → rank alive a ≡ rank alive b → a ≡ b
same_doc alive a b first other same = by (nat_lt a b) refl (nat_lt b a) refl
  where
    by : (t : Bool) → nat_lt a b ≡ t → (u : Bool) → nat_lt b a ≡ u → a ≡ b
    by true less u more = let up = rank_strict alive a b first (ltb-true a b less) in absurd (omega (arith, up, same))
    by false less true more = let up = rank_strict alive b a other (ltb-true b a more) in absurd (omega (arith, up, same))
    by false less false more = let low = ltb-false a b less in let high = ltb-false b a more in omega (arith, low, high)

-- A living document of a segment among others, with this number.
pub record IsDocAt (segments : List OpenSegmentState) (number : ℕ) (s : OpenSegmentState) (doc : ℕ) : Type 0 where
  pub before : List OpenSegmentState
  pub after : List OpenSegmentState
  pub whole : segments ≡ before ++ s ∷ after
  pub living : is_living s.alive doc ≡ true
  pub number_is : number ≡ total_living before + rank s.alive doc

-- a segment that comes before another one has smaller numbers
apart : (s x : OpenSegmentState) (xs : List OpenSegmentState) (doc number : ℕ) → s ≡ x → is_living s.alive doc ≡ true → number ≡ rank s.alive doc → (m : ℕ) → number ≡ total_living (x ∷ xs) + m → ⊥
apart s x xs doc number same living is m later =
    let low = rank_below s.alive doc living in
    let here = ap (λ (t : OpenSegmentState). num_living t.alive) same in
    omega (arith, low, here, is, later)

-- only one document has a number
one_place : (segments b1 a1 b2 a2 : List OpenSegmentState) (s1 s2 : OpenSegmentState) (d1 d2 number : ℕ) → segments ≡ b1 ++ s1 ∷ a1 → segments ≡ b2 ++ s2 ∷ a2 → is_living s1.alive d1 ≡ true → is_living s2.alive d2 ≡ true
    → number ≡ total_living b1 + rank s1.alive d1 → number ≡ total_living b2 + rank s2.alive d2 → (s1 ≡ s2) × (d1 ≡ d2)
one_place segments [] a1 [] a2 s1 s2 d1 d2 number first other l1 l2 n1 n2 =
    let same : s1 ≡ s2 = let e = sym first ∙ other in cc in
    let living : is_living s2.alive d1 ≡ true = subst (λ (t : OpenSegmentState). is_living t.alive d1 ≡ true) same l1 in
    let ranks : rank s1.alive d1 ≡ rank s2.alive d1 = ap (λ (t : OpenSegmentState). rank t.alive d1) same in
    let equal : rank s2.alive d1 ≡ rank s2.alive d2 = omega (arith, n1, n2, ranks) in
    (same, same_doc s2.alive d1 d2 living l2 equal)
one_place segments [] a1 (x ∷ b2) a2 s1 s2 d1 d2 number first other l1 l2 n1 n2 =
    let same : s1 ≡ x = let e = sym first ∙ other in cc in
    absurd (apart s1 x b2 d1 number same l1 (omega (arith, n1)) (rank s2.alive d2) n2)
one_place segments (x ∷ b1) a1 [] a2 s1 s2 d1 d2 number first other l1 l2 n1 n2 =
    let same : s2 ≡ x = let e = sym other ∙ first in cc in
    absurd (apart s2 x b1 d2 number same l2 (omega (arith, n2)) (rank s1.alive d1) n1)
one_place segments (x ∷ b1) a1 (y ∷ b2) a2 s1 s2 d1 d2 number first other l1 l2 n1 n2 =
    let heads : x ≡ y = let e = sym first ∙ other in cc in
    let tails : b1 ++ s1 ∷ a1 ≡ b2 ++ s2 ∷ a2 = let e = sym first ∙ other in cc in
    let living : num_living x.alive ≡ num_living y.alive = ap (λ (t : OpenSegmentState). num_living t.alive) heads in
    one_place (b1 ++ s1 ∷ a1) b1 a1 b2 a2 s1 s2 d1 d2 (total_living b1 + rank s1.alive d1) refl tails l1 l2 refl (omega (arith, living, n1, n2))

-- a document's number is below that of all living documents
below_all : (segments before after : List OpenSegmentState) (s : OpenSegmentState) (doc : ℕ) → segments ≡ before ++ s ∷ after → is_living s.alive doc ≡ true → total_living before + rank s.alive doc < total_living segments
below_all segments [] after s doc whole living = let low = rank_below s.alive doc living in let all = ap total_living whole in omega (arith, low, all)
below_all segments (x ∷ before) after s doc whole living =
    let rest = below_all (before ++ s ∷ after) before after s doc refl living in
    let all = ap total_living whole in
    omega (arith, rest, all)

-- what a segment says of the document with a number is said of it
at_place : (statistics : Statistics) (q : QueryTree) (segments : List OpenSegmentState) (number : ℕ) (s : OpenSegmentState) (doc : ℕ) (shares : List ShareState) → IsDocAt segments number s doc
    → shares ≡ tree_shares (scored_in s.index statistics) q doc → AreSharesAt statistics q segments number shares
at_place statistics q segments number s doc shares at are = record {
  here = λ before after t other whole living number_is.
      let same = one_place segments at.before at.after before after s t doc other number at.whole whole at.living living at.number_is number_is in
      are ∙ (λ j. tree_shares (scored_in (same.0 j).index statistics) q (same.1 j));
  none = λ high.
      let low = below_all segments at.before at.after s doc at.whole at.living in
      let number_is = at.number_is in
      absurd (omega (arith, low, number_is, high));
}

-- the same of what was returned
pub explained_at : (statistics : Statistics) (q : QueryTree) (segments : List OpenSegmentState) (number : ℕ) (s : OpenSegmentState) (doc : ℕ) (r : Result (Vec Share Global) Fault) → IsDocAt segments number s doc
    → IfOk r (λ shares. map share_of shares.items ≡ tree_shares (scored_in s.index statistics) q doc) → IfOk r (λ shares. AreSharesAt statistics q segments number (map share_of shares.items))
explained_at statistics q segments number s doc (Ok shares) at are = at_place statistics q segments number s doc (map share_of shares.items) at are
explained_at statistics q segments number s doc (Err fault) at are = tt

-- a number that no document has
pub no_place : (statistics : Statistics) (q : QueryTree) (segments : List OpenSegmentState) (number : ℕ) (shares : List ShareState) → total_living segments ≤ number → shares ≡ [] → AreSharesAt statistics q segments number shares
no_place statistics q segments number shares high empty = record {
  here = λ before after s doc whole living number_is.
      let low = below_all segments before after s doc whole living in
      absurd (omega (arith, low, number_is, high));
  none = λ _. empty;
}

-- ---- what is damaged of a document's segment
-- the segment after others has the numbers from that of its first document on
damage_in_place : (query : Query) (segments before after : List OpenSegmentState) (s : OpenSegmentState) (number k : ℕ) → segments ≡ before ++ s ∷ after → number ≡ total_living before + k → k < num_living s.alive
    → number_damage query number segments ≡ query_damage s.index query
damage_in_place query segments [] after s number k whole number_is low =
    let here : nat_lt number (num_living s.alive) ≡ true = lt-ltb number (num_living s.alive) (omega (arith, number_is, low)) in
    ap (number_damage query number) whole ∙ rw here refl
damage_in_place query segments (x ∷ before) after s number k whole number_is low =
    let later : nat_lt number (num_living x.alive) ≡ false = le-ltb number (num_living x.alive) (omega (arith, number_is)) in
    ap (number_damage query number) whole ∙ rw later (damage_in_place query (before ++ s ∷ after) before after s (number - num_living x.alive) k refl (omega (arith, number_is)) low)

-- what the segment that has a document says of its damage
pub damage_at : (query : Query) (segments : List OpenSegmentState) (number : ℕ) (s : OpenSegmentState) (doc : ℕ) → IsDocAt segments number s doc → number_damage query number segments ≡ query_damage s.index query
damage_at query segments number s doc at = damage_in_place query segments at.before at.after s number (rank s.alive doc) at.whole at.number_is (rank_below s.alive doc at.living)

-- a number that no document has
pub none_damaged : (query : Query) (segments : List OpenSegmentState) (number : ℕ) → total_living segments ≤ number → number_damage query number segments ≡ None
none_damaged query [] number high = refl
none_damaged query (x ∷ segments) number high =
    let later : nat_lt number (num_living x.alive) ≡ false = le-ltb number (num_living x.alive) (omega (arith, high)) in
    rw later (none_damaged query segments (number - num_living x.alive) (omega (arith, high)))

-- ---- a place among the segments
-- the segments around one
pub split_at : (segments : List RankedSegment) (i : ℕ) (s : RankedSegment) → i < length segments → s ≡ get_or segments i s → map segment_of segments ≡ take i (map segment_of segments) ++ segment_of s ∷ drop (i + 1) (map segment_of segments)
split_at segments i s inside is =
    sym (take-append-drop i (map segment_of segments)) ∙ ap (λ (ss : List OpenSegmentState). take i (map segment_of segments) ++ ss) (segment_at segments i s inside is)

-- a segment has the fields of a query
pub fields_at : (query : Query) (segments before after : List OpenSegmentState) (s : OpenSegmentState) → segments ≡ before ++ s ∷ after → HaveFields query segments → has_fields (length s.index.readers) query ≡ true
fields_at query segments [] after s whole fields = (rw whole at fields).0
fields_at query segments (x ∷ before) after s whole fields = fields_at query (before ++ s ∷ after) before after s refl (rw whole at fields).1

-- a segment among sound ones is sound
sound_at : (query : Query) (segments before after : List OpenSegmentState) (s : OpenSegmentState) → segments ≡ before ++ s ∷ after → segments_damage query segments ≡ None → query_damage s.index query ≡ None
sound_at query segments [] after s whole sound = first_sound (query_damage s.index query) (segments_damage query after) (ap (segments_damage query) (sym whole) ∙ sound)
  where
    first_sound : (d e : Option Part) → first_of d e ≡ None → d ≡ None
    first_sound None e none = refl
    first_sound (Some part) e none = absurd (let no = none in cc)
sound_at query segments (x ∷ before) after s whole sound = sound_at query (before ++ s ∷ after) before after s refl (other_sound (query_damage x.index query) (segments_damage query (before ++ s ∷ after)) (ap (segments_damage query) (sym whole) ∙ sound))
  where
    other_sound : (d e : Option Part) → first_of d e ≡ None → e ≡ None
    other_sound None e none = none
    other_sound (Some part) e none = absurd (let no = none in cc)

-- only memory is wanting for what a segment among sound ones returned
pub only_memory_at : (query : Query) (segments before after : List OpenSegmentState) (s : OpenSegmentState) (r : Result (Vec Share Global) Fault) → segments ≡ before ++ s ∷ after → segments_damage query segments ≡ None
    → IfErr r (IsScoreFault (query_damage s.index query)) → OnlyMemory r
only_memory_at query segments before after s (Ok shares) whole sound fault = tt
only_memory_at query segments before after s (Err e) whole sound fault = memory_of_none (query_damage s.index query) e (sound_at query segments before after s whole sound) fault

-- the living documents of one segment more
pub living_next : (segments : List RankedSegment) (i : ℕ) (s : RankedSegment) → i < length segments → s ≡ get_or segments i s → total_living (take (i + 1) (map segment_of segments)) ≡ total_living (take i (map segment_of segments)) + num_living s.alive.now
living_next segments i s inside is =
    let all = map segment_of segments in
    let many = length-map segments segment_of in
    let here : get_or all i (segment_of s) ≡ segment_of s = get_or-map segment_of segments i s (segment_of s) inside ∙ ap segment_of (sym is) in
    ap total_living (ap (λ (n : ℕ). take n all) (add-one i) ∙ take-suc all i (segment_of s) (omega (arith, many, inside)) ∙ ap (λ (t : OpenSegmentState). take i all ++ t ∷ []) here)
    ∙ total_more (take i all) (segment_of s)

-- ---- the sum of the shares
module _ (statistics : Statistics) (query : Query) (all : List OpenSegmentState) where
  -- The shares of a document add up to a score.
  abbrev pub AddsUp : ℕ × ℕ → Type 0
  AddsUp b = (shares : List ShareState) → AreSharesAt statistics (tree_of query) all b.1 shares → total shares ≡ Some b.0

  module _ (before after : List OpenSegmentState) (s : OpenSegmentState) (base : ℕ) (whole : all ≡ before ++ s ∷ after) (base_is : base ≡ total_living before) where
    one_adds : (doc : ℕ) (living : Bool) → is_living s.alive doc ≡ living → (score : Option ℕ) → query_score (scored_in s.index statistics) query doc ≡ score
        → All AddsUp (with_score (if living then score else None) (base + rank s.alive doc))
    one_adds doc false is score scored = All-nil AddsUp
    one_adds doc true is None scored = All-nil AddsUp
    one_adds doc true is (Some score) scored = All-from_recursion AddsUp ((score, base + rank s.alive doc) ∷ []) (
      (λ shares are. ap total (are.here before after s doc whole is (ap (λ (n : ℕ). n + rank s.alive doc) base_is)) ∙ sym (shares_add_up (scored_in s.index statistics) (tree_of query) doc) ∙ scored),
      tt,
    )

    segment_adds : (n : ℕ) → All AddsUp (scored_by_number (λ (doc : ℕ). base + rank s.alive doc) n (living_score s.alive (query_score (scored_in s.index statistics) query)))
    segment_adds zero = All-nil AddsUp
    segment_adds (suc n) =
        let f = living_score s.alive (query_score (scored_in s.index statistics) query) in
        let number = λ (doc : ℕ). base + rank s.alive doc in
        let more : n + 1 ≡ suc n = omega arith in
        subst (λ (k : ℕ). All AddsUp (scored_by_number number k f)) more
        (subst (All AddsUp) (sym (scored_more number n f))
        (All-append AddsUp (scored_by_number number n f) (with_score (f n) (number n)) (segment_adds n) (one_adds n (is_living s.alive n) refl (query_score (scored_in s.index statistics) query n) refl)))

  segments_add : (left before : List OpenSegmentState) (base : ℕ) → all ≡ before ++ left → base ≡ total_living before → All AddsUp (segments_scored statistics query base left)
  segments_add [] before base whole base_is = All-nil AddsUp
  segments_add (s ∷ left) before base whole base_is =
      let next : all ≡ (before ++ s ∷ []) ++ left = whole ∙ sym (append_assoc before (s ∷ []) left) in
      All-append AddsUp (segment_scored base s.alive (query_score (scored_in s.index statistics) query)) (segments_scored statistics query (base + num_living s.alive) left) (segment_adds before left s base whole base_is (length s.alive))
      (segments_add left (before ++ s ∷ []) (base + num_living s.alive) next (let more = total_more before s in omega (arith, more, base_is)))

  -- the shares of each document that has a score add up to it
  pub shares_of_each : All AddsUp (segments_scored statistics query 0 all)
  shares_of_each = segments_add all [] 0 refl refl

  -- so do those that were returned for one of them
  pub sum_of : (number : ℕ) (r : Result (Vec Share Global) Fault) → IfOk r (λ shares. AreSharesAt statistics (tree_of query) all number (map share_of shares.items))
      → (score : ℕ) → Contains (segments_scored statistics query 0 all) (score, number) → IfOk r (λ shares. total (map share_of shares.items) ≡ Some score)
  sum_of number (Ok shares) are score inside = All-contains AddsUp (segments_scored statistics query 0 all) (score, number) shares_of_each inside (map share_of shares.items) are
  sum_of number (Err fault) are score inside = tt
