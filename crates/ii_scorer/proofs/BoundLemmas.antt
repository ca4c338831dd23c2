-- Laws of the bounds of documents, and of the lists of scorers.
use Rattle.std.proofs.Common.{◌≡◌, ◌∙◌, ◌⊎◌, inl, inr, ℕ, zero, suc, ◌+◌, ◌-◌, ◌^◌, ◌<◌, ◌≤◌, List, [], ◌∷◌, ◌++◌, Some, ap, arith, get_or, length, min, refl, set, slice_get, subst, sym, take}
use Rattle.std.specs.List.{AllZip, sum_by}
use Rattle.std.specs.List.Sorted.{IsPermutation}
use Rattle.std.proofs.lemmas.List.{take_all}
use Rattle.std.proofs.lemmas.List.FromFn.{get_or-map-range_with_len}
use Rattle.std.proofs.lemmas.List.Sorted.{sum_by-IsPermutation}
use Rattle.std.proofs.lemmas.List.Sums.{sum_by-cons}
use Rattle.ii_base.specs.declared.doc_id.TheConstants.{TERMINATED}
use Rattle.ii_scorer.specs.BlockLists.{BlockList, ReadsOnly}
use Rattle.ii_scorer.specs.Combinations.{add}
use Rattle.ii_scorer.specs.Scorers.{KeepsFrom, MayScore, ScorerState, bound_over, bounds_below, doc_bound, lists_of}
use Rattle.ii_scorer.proofs.BlockListLaws.{all_append, all_none, all_on, all_weaker}
use Rattle.ii_scorer.proofs.SumLemmas.{add_grouped}

-- ---- bounds below `TERMINATED`
pub row_bound_at : (f : ℕ → ℕ) (doc : ℕ) → doc < TERMINATED → get_or (bounds_below TERMINATED f) doc 0 ≡ f doc
unfolding bounds_below
row_bound_at f doc below = get_or-map-range_with_len f 0 TERMINATED doc doc 0 below (omega arith)

-- a bound that reaches a score does so xs one of a row
pub row_reaches : (least doc : ℕ) (f : ℕ → ℕ) → doc < TERMINATED → least ≤ f doc → least ≤ get_or (bounds_below TERMINATED f) doc 0
row_reaches least doc f below up = subst (λ (n : ℕ). least ≤ n) (sym (row_bound_at f doc below)) up

pub row_within : (target most end : ℕ) (f : ℕ → ℕ) → end ≤ TERMINATED → ((doc : ℕ) → target ≤ doc → doc < end → most ≤ f doc) → (doc : ℕ) → target ≤ doc → doc < end → most ≤ get_or (bounds_below TERMINATED f) doc 0
row_within target most end f low within doc from below = row_reaches most doc f (omega (arith, low, below)) (within doc from below)

pub row_reached : (next least : ℕ) (f : ℕ → ℕ) (lists : List BlockList) → (next < TERMINATED → (lists ≡ []) ⊎ (least ≤ f next)) → next < TERMINATED → (lists ≡ []) ⊎ (least ≤ get_or (bounds_below TERMINATED f) next 0)
row_reached next least f lists reached low = by (reached low)
  where
    by : (lists ≡ []) ⊎ (least ≤ f next) → (lists ≡ []) ⊎ (least ≤ get_or (bounds_below TERMINATED f) next 0)
    by (inl none) = inl none
    by (inr up) = inr (row_reaches least next f low up)

pub row_reads : (target least next : ℕ) (f : ℕ → ℕ) (olds news : List BlockList) → ReadsOnly (MayScore target least next f) olds news → ReadsOnly (MayScore target least next (λ (doc : ℕ). get_or (bounds_below TERMINATED f) doc 0)) olds news
row_reads target least next f olds news =
    all_weaker (MayScore target least next f) (MayScore target least next (λ (doc : ℕ). get_or (bounds_below TERMINATED f) doc 0)) (λ doc may. record { low = may.low; up_to = may.up_to; inside = may.inside; reaches = row_reaches least doc f may.inside may.reaches }) olds news

-- ---- bounds of some scorers
-- the bounds of scorers that went on
pub zip_bound_at : (doc : ℕ) (olds news : List ScorerState) (d : ℕ) → AllZip (KeepsFrom doc) olds news → bound_over news d ≡ bound_over olds d
zip_bound_at doc [] [] d z = refl
zip_bound_at doc [] (n ∷ ns) d z = elim z [ ]
zip_bound_at doc (o ∷ os) [] d z = elim z [ ]
zip_bound_at doc (o ∷ os) (n ∷ ns) d z = λ j. add (get_or (z.0.bounds j) d 0) (zip_bound_at doc os ns d z.1 j)

pub zip_bounds : (doc : ℕ) (olds news : List ScorerState) → AllZip (KeepsFrom doc) olds news → bound_over news ≡ bound_over olds
zip_bounds doc olds news z = λ j. λ (d : ℕ). zip_bound_at doc olds news d z j

-- one scorer more
pub bound_more : (ss : List ScorerState) (place doc : ℕ) (s : ScorerState) → slice_get ss place ≡ Some s → bound_over (take (place + 1) ss) doc ≡ add (bound_over (take place ss) doc) (doc_bound s doc)
bound_more ss place doc s at =
    let more : place + 1 ≡ suc place = omega arith in
    ap (λ (n : ℕ). bound_over (take n ss) doc) more ∙ row ss place s at
  where
    some_injective : (a b : ScorerState) → Some a ≡ Some b → a ≡ b
    some_injective a b is = cc

    row : (ts : List ScorerState) (i : ℕ) (t : ScorerState) → slice_get ts i ≡ Some t → bound_over (take (suc i) ts) doc ≡ add (bound_over (take i ts) doc) (doc_bound t doc)
    row [] i t at = absurd (cc)
    row (y ∷ ts) zero t at = let same = ap (λ (z : ScorerState). doc_bound z doc) (some_injective y t at) in omega (arith, same)
    row (y ∷ ts) (suc i) t at = ap (add (doc_bound y doc)) (row ts i t at) ∙ sym (add_grouped (doc_bound y doc) (bound_over (take i ts) doc) (doc_bound t doc))

-- their sum
bound_summed : (ss : List ScorerState) (doc : ℕ) → bound_over ss doc ≡ min (2 ^ 64 - 1) (sum_by (λ (s : ScorerState). doc_bound s doc) ss)
bound_summed [] doc = omega arith
bound_summed (s ∷ ss) doc = let later = bound_summed ss doc in let more = sum_by-cons (λ (t : ScorerState). doc_bound t doc) s ss in omega (arith, later, more)

-- it doesn't depend on their order
pub bound_in_order : (ss sorted : List ScorerState) (doc : ℕ) → IsPermutation ss sorted → bound_over sorted doc ≡ bound_over ss doc
bound_in_order ss sorted doc same = bound_summed sorted doc ∙ ap (min (2 ^ 64 - 1)) (sum_by-IsPermutation (λ (s : ScorerState). doc_bound s doc) ss sorted same) ∙ sym (bound_summed ss doc)

-- ---- lists of some scorers
-- one of them was read
pub lists_set : (P : ℕ → Type 0) (ss : List ScorerState) (i : ℕ) (x y : ScorerState) → i < length ss → x ≡ get_or ss i x → ReadsOnly P x.lists y.lists → ReadsOnly P (lists_of ss) (lists_of (set ss i y))
lists_set P [] i x y inside is reads = absurd (omega (arith, inside))
lists_set P (s ∷ ss) zero x y inside is reads = all_append P s.lists y.lists (lists_of ss) (lists_of ss) (subst (λ (t : ScorerState). ReadsOnly P t.lists y.lists) is reads) (all_none P (lists_of ss))
lists_set P (s ∷ ss) (suc i) x y inside is reads = all_append P s.lists s.lists (lists_of ss) (lists_of (set ss i y)) (all_none P s.lists) (lists_set P ss i x y (omega (arith, inside)) is reads)

pub lists_next : (P : ℕ → Type 0) (olds news : List ScorerState) (i : ℕ) (x y : ScorerState) → i < length news → x ≡ get_or news i x → ReadsOnly P x.lists y.lists → ReadsOnly P (lists_of olds) (lists_of news) → ReadsOnly P (lists_of olds) (lists_of (set news i y))
lists_next P olds news i x y inside is reads so_far = all_on P (lists_of olds) (lists_of news) (lists_of (set news i y)) so_far (lists_set P news i x y inside is reads)

-- the lists of the first ones, if these have none
pub lists_more : (ss : List ScorerState) (place : ℕ) (x : ScorerState) → place < length ss → x ≡ get_or ss place x → lists_of (take place ss) ≡ [] → x.lists ≡ [] → lists_of (take (place + 1) ss) ≡ []
lists_more ss place x inside is none empty =
    let more : place + 1 ≡ suc place = omega arith in
    ap (λ (n : ℕ). lists_of (take n ss)) more ∙ row ss place inside is none
  where
    front : (xs ys : List BlockList) → xs ++ ys ≡ [] → xs ≡ []
    front [] ys none = refl
    front (a ∷ xs) ys none = absurd (cc)

    back : (xs ys : List BlockList) → xs ++ ys ≡ [] → ys ≡ []
    back [] ys none = none
    back (a ∷ xs) ys none = absurd (cc)

    join : (xs ys : List BlockList) → xs ≡ [] → ys ≡ [] → xs ++ ys ≡ []
    join xs ys first second = λ j. first j ++ second j

    row : (ts : List ScorerState) (i : ℕ) → i < length ts → x ≡ get_or ts i x → lists_of (take i ts) ≡ [] → lists_of (take (suc i) ts) ≡ []
    row [] i inside is none = absurd (omega (arith, inside))
    row (y ∷ ts) zero inside is none = join y.lists [] (ap (λ (z : ScorerState). z.lists) (sym is) ∙ empty) refl
    row (y ∷ ts) (suc i) inside is none = join y.lists (lists_of (take (suc i) ts)) (front y.lists (lists_of (take i ts)) none) (row ts i (omega (arith, inside)) is (back y.lists (lists_of (take i ts)) none))

pub lists_all : (ss : List ScorerState) (place : ℕ) → length ss ≤ place → lists_of (take place ss) ≡ [] → lists_of ss ≡ []
lists_all ss place all none = sym (ap lists_of (take_all place ss all)) ∙ none
