-- Laws of the scores by the parts of a scorer.
use Rattle.std.proofs.Common.{◌≡◌, ◌∙◌, ℕ, zero, suc, ◌^◌, ◌<◌, ◌≤◌, Bool, true, false, List, [], ◌∷◌, Option, None, Some, get_or, if◌then◌else◌, length, map, min, nat_lt, refl, sym, ap, subst, arith}
use Rattle.std.specs.List.{AllByRecursion, AllZip, fold, range_with_len}
use Rattle.std.proofs.lemmas.Bool.{ltb-false, ltb-true}
use Rattle.std.proofs.lemmas.List.FromFn.{get_or-map-range_with_len, length-map-range_with_len}
use Rattle.ii_base.specs.declared.doc_id.TheConstants.{TERMINATED}
use Rattle.ii_bm25.specs.declared.bm25.TheConstants.{SCORE_ONE}
use Rattle.ii_scorer.specs.BlockLists.{BlockList}
use Rattle.ii_scorer.specs.Combinations.{any_of, both, each_of, either, unless}
use Rattle.ii_scorer.specs.Scorers.{AreBounded, IsBelow, IsBounded, IsNext, IsUpTo, KeepsFrom, ScorerState, if_at_least, most_of, score_of, scores_at, scores_below}
use Rattle.ii_scorer.specs.QueryScorers.{PartsAreBounded, score_by_parts}
use Rattle.ii_scorer.specs.declared.query_scorer.ScorerParts.{ScorerParts}
use Rattle.ii_scorer.specs.declared.query_scorer.ScorerParts.TheVariants.{Nothing, One, All, Each, Any, Without}
use Rattle.ii_scorer.proofs.ScorerLemmas.{any_up_to, below_if_up_to, each_up_to, up_to_more, up_to_unless, zip_bounded, zip_most, zip_scores}
use Rattle.ii_scorer.proofs.SumLemmas.{any_cons, both_never}

-- ---- scores below a number
outside : (xs : List (Option ℕ)) (i : ℕ) → length xs ≤ i → get_or xs i None ≡ None
outside [] i low = refl
outside (x ∷ xs) zero low = absurd (omega (arith, low))
outside (x ∷ xs) (suc i) low = outside xs i (omega (arith, low))

pub row_at : (n : ℕ) (f : ℕ → Option ℕ) (doc : ℕ) → doc < n → get_or (scores_below n f) doc None ≡ f doc
unfolding scores_below
row_at n f doc below = get_or-map-range_with_len f 0 n doc doc None below (omega arith)

pub row_end : (n : ℕ) (f : ℕ → Option ℕ) (doc : ℕ) → n ≤ doc → get_or (scores_below n f) doc None ≡ None
unfolding scores_below
row_end n f doc above = outside (map f (range_with_len 0 n)) doc (let long = length-map-range_with_len f 0 n in omega (arith, long, above))

-- what holds of each score holds of those below `TERMINATED`, if it holds of none
pub row_holds : (P : Option ℕ → Type 0) (f : ℕ → Option ℕ) (doc : ℕ) → P None → P (f doc) → P (get_or (scores_below TERMINATED f) doc None)
row_holds P f doc none here = by (nat_lt doc TERMINATED) refl
  where
    by : (t : Bool) → nat_lt doc TERMINATED ≡ t → P (get_or (scores_below TERMINATED f) doc None)
    by true is = subst P (sym (row_at TERMINATED f doc (ltb-true doc TERMINATED is))) here
    by false is = subst P (sym (row_end TERMINATED f doc (ltb-false doc TERMINATED is))) none

-- a document scores this, if it does below `TERMINATED`, and none from there on
pub row_is : (f g : ℕ → Option ℕ) → ((doc : ℕ) → f doc ≡ g doc) → ((doc : ℕ) → TERMINATED ≤ doc → g doc ≡ None) → (doc : ℕ) → get_or (scores_below TERMINATED f) doc None ≡ g doc
row_is f g same ends doc = by (nat_lt doc TERMINATED) refl
  where
    by : (t : Bool) → nat_lt doc TERMINATED ≡ t → get_or (scores_below TERMINATED f) doc None ≡ g doc
    by true is = row_at TERMINATED f doc (ltb-true doc TERMINATED is) ∙ same doc
    by false is = let end = ltb-false doc TERMINATED is in row_end TERMINATED f doc end ∙ sym (ends doc end)

-- the same from a document on
pub row_alike : (from : ℕ) (f g : ℕ → Option ℕ) → ((doc : ℕ) → from ≤ doc → g doc ≡ f doc) → (doc : ℕ) → from ≤ doc → get_or (scores_below TERMINATED g) doc None ≡ get_or (scores_below TERMINATED f) doc None
row_alike from f g same doc up = by (nat_lt doc TERMINATED) refl
  where
    by : (t : Bool) → nat_lt doc TERMINATED ≡ t → get_or (scores_below TERMINATED g) doc None ≡ get_or (scores_below TERMINATED f) doc None
    by true is = let low = ltb-true doc TERMINATED is in row_at TERMINATED g doc low ∙ same doc up ∙ sym (row_at TERMINATED f doc low)
    by false is = let end = ltb-false doc TERMINATED is in row_end TERMINATED g doc end ∙ sym (row_end TERMINATED f doc end)

pub row_next : (target least next : ℕ) (f : ℕ → Option ℕ) → IsNext target least f next → IsNext target least (λ (doc : ℕ). get_or (scores_below TERMINATED f) doc None) next
row_next target least next f is = record { low = is.low; up_to = is.up_to; passed = λ doc from passed. row_holds (IsBelow least) f doc tt (is.passed doc from passed) }

-- ---- no document from `TERMINATED` on
pub any_ends : (ss : List ScorerState) (doc : ℕ) → TERMINATED ≤ doc → AllByRecursion IsBounded ss → any_of (scores_at ss doc) ≡ None
any_ends [] doc end all = refl
any_ends (s ∷ ss) doc end all = any_cons (score_of s doc) (scores_at ss doc) ∙ (λ j. either (all.0.ends doc end j) (any_ends ss doc end all.1 j))

pub each_ends : (ss : List ScorerState) (doc : ℕ) → TERMINATED ≤ doc → AllByRecursion IsBounded ss → each_of (scores_at ss doc) ≡ None
each_ends [] doc end all = refl
each_ends (s ∷ ss) doc end all = ap (λ (score : Option ℕ). fold both score (scores_at ss doc)) (all.0.ends doc end) ∙ both_never (scores_at ss doc)

pub unless_ends : (a b : Option ℕ) → a ≡ None → unless a b ≡ None
unless_ends a b none = ap (λ (score : Option ℕ). unless score b) none ∙ never b
  where
    never : (b : Option ℕ) → unless None b ≡ None
    never None = refl
    never (Some n) = refl

-- ---- bounds
pub all_up_to : (limit doc : ℕ) → IsUpTo SCORE_ONE (if nat_lt doc (min limit TERMINATED) then Some SCORE_ONE else None)
all_up_to limit doc = by (nat_lt doc (min limit TERMINATED))
  where
    by : (t : Bool) → IsUpTo SCORE_ONE (if t then Some SCORE_ONE else None)
    by true = omega arith
    by false = tt

pub parts_up_to : {T : Type 0} (state : T → ScorerState) (most : ℕ) (parts : ScorerParts T) (doc : ℕ) → PartsAreBounded state most parts → IsUpTo most (score_by_parts state parts doc)
parts_up_to state most Nothing doc b = tt
parts_up_to state most (One scorer) doc b = up_to_more (state scorer).most most (score_of (state scorer) doc) b.1 (b.0.each doc)
parts_up_to state most (All limit) doc b = up_to_more SCORE_ONE most (if nat_lt doc (min limit TERMINATED) then Some SCORE_ONE else None) b (all_up_to limit doc)
parts_up_to state most (Each parts) doc b = up_to_more (most_of parts.items) most (each_of (scores_at parts.items doc)) b.1 (each_up_to parts.items doc b.0)
parts_up_to state most (Any parts sums) doc b = up_to_more (most_of parts.items) most (any_of (scores_at parts.items doc)) b.0.1 (any_up_to parts.items doc b.0.0)
parts_up_to state most (Without first other) doc b = up_to_more first.value.most most (unless (score_of first.value doc) (score_of other.value doc)) b.1 (up_to_unless first.value.most (score_of first.value doc) (score_of other.value doc) (b.0.each doc))

-- no document scores so much
pub none_reaches : {T : Type 0} (state : T → ScorerState) (most target least : ℕ) (parts : ScorerParts T) → target ≤ TERMINATED → most < least → PartsAreBounded state most parts → IsNext target least (score_by_parts state parts) TERMINATED
none_reaches state most target least parts up few b = record {
  low = up;
  up_to = omega arith;
  passed = λ doc from passed. below_if_up_to most least (score_by_parts state parts doc) few (parts_up_to state most parts doc b);
}

pub view_bounded : {T : Type 0} (state : T → ScorerState) (most depth : ℕ) (bounds : List ℕ) (lists : List BlockList) (parts : ScorerParts T) → most < 2 ^ 64 → PartsAreBounded state most parts → IsBounded (record { scores = scores_below TERMINATED (score_by_parts state parts); most = most; depth = depth; bounds = bounds; lists = lists })
view_bounded state most depth bounds lists parts few b = record {
  fits = few;
  ends = λ doc end. row_end TERMINATED (score_by_parts state parts) doc end;
  each = λ doc. row_holds (IsUpTo most) (score_by_parts state parts) doc tt (parts_up_to state most parts doc b);
}

-- ---- some scorers that went on
pub zip_are_bounded : (doc most : ℕ) (olds news : List ScorerState) → AllZip (KeepsFrom doc) olds news → AreBounded most olds → AreBounded most news
zip_are_bounded doc most olds news z b = (zip_bounded doc olds news z b.0, let same = zip_most doc olds news z in let low = b.1 in omega (arith, same, low))

pub zip_each : (doc d : ℕ) (olds news : List ScorerState) → doc ≤ d → AllZip (KeepsFrom doc) olds news → each_of (scores_at news d) ≡ each_of (scores_at olds d)
zip_each doc d olds news from z = ap each_of (zip_scores doc d olds news from z)

pub zip_any : (doc d : ℕ) (olds news : List ScorerState) → doc ≤ d → AllZip (KeepsFrom doc) olds news → any_of (scores_at news d) ≡ any_of (scores_at olds d)
zip_any doc d olds news from z = ap any_of (zip_scores doc d olds news from z)

-- ---- all documents below a number
pub all_ends : (limit doc : ℕ) → TERMINATED ≤ doc → (if nat_lt doc (min limit TERMINATED) then Some SCORE_ONE else None) ≡ None
all_ends limit doc end = by (nat_lt doc (min limit TERMINATED)) refl
  where
    by : (t : Bool) → nat_lt doc (min limit TERMINATED) ≡ t → (if t then Some SCORE_ONE else None) ≡ None
    by true is = let low = ltb-true doc (min limit TERMINATED) is in absurd (omega (arith, low, end))
    by false is = refl

-- ---- the score of one document
pub row_score : (least doc : ℕ) (given : Option ℕ) (f : ℕ → Option ℕ) → doc < TERMINATED → given ≡ if_at_least least (f doc) → given ≡ if_at_least least (get_or (scores_below TERMINATED f) doc None)
row_score least doc given f low is = is ∙ ap (if_at_least least) (sym (row_at TERMINATED f doc low))
