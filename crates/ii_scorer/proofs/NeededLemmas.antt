-- Documents at which blocks are decoded, since fewer than are wanted score as much as their bounds.
use Rattle.std.proofs.Common.{◌≡◌, ◌∙◌, ◌⊎◌, inl, inr, ℕ, zero, suc, ◌+◌, ◌-◌, ◌<◌, ◌≤◌, Bool, true, false, List, [], ◌∷◌, ◌++◌, Option, None, Some, ap, append_assoc, arith, cond, get_or, if◌then◌else◌, nat_le, refl, subst, sym}
use Rattle.std.specs.List.{All}
use Rattle.std.proofs.lemmas.Bool.{leb-true}
use Rattle.std.proofs.lemmas.List.Elements.{All-append}
use Rattle.std.proofs.lemmas.List.Sums.{sum_by-append, sum_by-cons}
use Rattle.ii_scorer.specs.BestDocs.{IsNeeded, Numbering, NumbersComeAfter, counted_score, first_numbered}
use Rattle.ii_scorer.specs.BlockLists.{BlockList, ReadsOnly}
use Rattle.ii_scorer.specs.Scorers.{IsBelow, MayScore, ScorerState, doc_bound, score_of}
use Rattle.ii_scorer.specs.TopDocs.{with_score}
use Rattle.ii_scorer.specs.TopNComputer.{KeepsBest, TopNState, num_reaching}
use Rattle.ii_scorer.proofs.BlockListLaws.{all_gone, all_on, all_unread, all_weaker}
use Rattle.ii_scorer.proofs.PassLemmas.{below_counted}
use Rattle.ii_scorer.proofs.TopLemmas.{scored_more}

-- ---- the numbers of documents that were pushed
one_below : (P : ℕ × ℕ → Type 0) (a : ℕ × ℕ) → P a → All P (a ∷ [])
one_below P a is zero d inside = is
one_below P a is (suc k) d inside = absurd (omega (arith, inside))

score_below : (n : Numbering) (f : ℕ → Option ℕ) (doc limit : ℕ) → (n.counts doc ≡ true → n.number doc < limit) → All (λ (a : ℕ × ℕ). a.1 < limit) (with_score (counted_score n f doc) (n.number doc))
score_below n f doc limit below = by (n.counts doc) refl
  where
    at : (t : Option ℕ) → n.number doc < limit → All (λ (a : ℕ × ℕ). a.1 < limit) (with_score t (n.number doc))
    at None low = λ k d inside. absurd (omega (arith, inside))
    at (Some score) low = one_below (λ (a : ℕ × ℕ). a.1 < limit) (score, n.number doc) low

    by : (t : Bool) → n.counts doc ≡ t → All (λ (a : ℕ × ℕ). a.1 < limit) (with_score (if n.counts doc then f doc else None) (n.number doc))
    by true is = rw is (at (f doc) (below is))
    by false is = rw is (at_none (n.number doc))
      where
        at_none : (number : ℕ) → All (λ (a : ℕ × ℕ). a.1 < limit) (with_score None number)
        at_none number k d inside = absurd (omega (arith, inside))

first_below : (n : Numbering) (f : ℕ → Option ℕ) (count limit : ℕ) → ((doc : ℕ) → doc < count → n.counts doc ≡ true → n.number doc < limit) → All (λ (a : ℕ × ℕ). a.1 < limit) (first_numbered n count f)
first_below n f zero limit below = λ k d inside. absurd (omega (arith, inside))
first_below n f (suc count) limit below =
    let more : suc count ≡ count + 1 = omega arith in
    subst (All (λ (a : ℕ × ℕ). a.1 < limit)) (sym (ap (λ (m : ℕ). first_numbered n m f) more ∙ scored_more n.number count (counted_score n f)))
    (All-append (λ (a : ℕ × ℕ). a.1 < limit) (first_numbered n count f) (with_score (counted_score n f count) (n.number count)) (first_below n f count limit (λ doc inside. below doc (omega (arith, inside)))) (score_below n f count limit (below count (omega arith))))

-- those before a document, and the others, have numbers below its own
pub numbers_below : (n : Numbering) (f : ℕ → Option ℕ) (scored : List (ℕ × ℕ)) (doc : ℕ) → NumbersComeAfter scored n → doc < n.num_docs → All (λ (a : ℕ × ℕ). a.1 < n.number doc) (scored ++ first_numbered n doc f)
numbers_below n f scored doc after inside =
    All-append (λ (a : ℕ × ℕ). a.1 < n.number doc) scored (first_numbered n doc f) (after.after doc inside) (first_below n f doc (n.number doc) (λ d low counts. after.apart d doc low inside counts))

-- ---- documents that score less than what is asked
none_reaching : (score number : ℕ) (t : Option ℕ) → IsBelow score t → num_reaching score (with_score t number) ≡ 0
none_reaching score number None below = refl
none_reaching score number (Some s) below = sum_by-cons (λ (d : ℕ × ℕ). cond (nat_le score d.0) 1 0) (s, number) [] ∙ by (nat_le score s) refl
  where
    by : (t : Bool) → nat_le score s ≡ t → cond (nat_le score s) 1 0 + 0 ≡ 0
    by true is = let up = leb-true score s is in absurd (omega (arith, up, below))
    by false is = rw is refl

below_more : (less more : ℕ) (t : Option ℕ) → less ≤ more → IsBelow less t → IsBelow more t
below_more less more None up below = tt
below_more less more (Some s) up below = omega (arith, up, below)

still_on : (n : Numbering) (f : ℕ → Option ℕ) (scored : List (ℕ × ℕ)) (score doc more : ℕ) → ((d : ℕ) → doc ≤ d → d < doc + more → IsBelow score (f d)) → num_reaching score (scored ++ first_numbered n (doc + more) f) ≡ num_reaching score (scored ++ first_numbered n doc f)
still_on n f scored score doc zero below = let same : doc + 0 ≡ doc = omega arith in ap (λ (k : ℕ). num_reaching score (scored ++ first_numbered n k f)) same
still_on n f scored score doc (suc more) below =
    let next : doc + suc more ≡ doc + more + 1 = omega arith in
    let first = first_numbered n (doc + more) f in
    let last = with_score (counted_score n f (doc + more)) (n.number (doc + more)) in
    let apart : num_reaching score ((scored ++ first) ++ last) ≡ num_reaching score (scored ++ first) + num_reaching score last = sum_by-append (λ (d : ℕ × ℕ). cond (nat_le score d.0) 1 0) (scored ++ first) last in
    let none : num_reaching score last ≡ 0 = none_reaching score (n.number (doc + more)) (counted_score n f (doc + more)) (below_counted n f score (doc + more) (below (doc + more) (omega arith) (omega arith))) in
    let row : scored ++ first_numbered n (doc + more + 1) f ≡ (scored ++ first) ++ last = ap (λ (xs : List (ℕ × ℕ)). scored ++ xs) (scored_more n.number (doc + more) (counted_score n f)) ∙ sym (append_assoc scored first last) in
    let here : num_reaching score (scored ++ first_numbered n (doc + more + 1) f) ≡ num_reaching score (scored ++ first) = ap (num_reaching score) row ∙ omega (arith, apart, none) in
    ap (λ (k : ℕ). num_reaching score (scored ++ first_numbered n k f)) next ∙ here ∙ still_on n f scored score doc more (λ d up low. below d up (omega (arith, low)))

pub still_needed : (n : Numbering) (f : ℕ → Option ℕ) (scored : List (ℕ × ℕ)) (least score top_n doc from : ℕ) → doc ≤ from → least ≤ score → ((d : ℕ) → doc ≤ d → d < from → IsBelow least (f d)) → num_reaching score (scored ++ first_numbered n doc f) < top_n → num_reaching score (scored ++ first_numbered n from f) < top_n
still_needed n f scored least score top_n doc from low up below few =
    let whole : doc + (from - doc) ≡ from = omega (arith, low) in
    let same = still_on n f scored score doc (from - doc) (λ d above inside. below_more least score (f d) up (below d above (omega (arith, inside, whole)))) in
    subst (λ (k : ℕ). num_reaching score (scored ++ first_numbered n k f) < top_n) whole (omega (arith, same, few))

-- the least score of those that are kept
pub least_needed : (n : Numbering) (f : ℕ → Option ℕ) (scored : List (ℕ × ℕ)) (s : TopNState) (top_n doc number least : ℕ) → number ≡ n.number doc → doc < n.num_docs → s.top_n ≡ top_n → NumbersComeAfter scored n → KeepsBest (scored ++ first_numbered n doc f) s
    → ((rows : List (ℕ × ℕ)) → KeepsBest rows s → All (λ (a : ℕ × ℕ). a.1 < number) rows → (score : ℕ) → least ≤ score → num_reaching score rows < s.top_n) → (score : ℕ) → least ≤ score → num_reaching score (scored ++ first_numbered n doc f) < top_n
least_needed n f scored s top_n doc number least is inside wanted after kept needed score up =
    let rows = scored ++ first_numbered n doc f in
    subst (λ (most : ℕ). num_reaching score rows < most) wanted (needed rows kept (subst (λ (m : ℕ). All (λ (a : ℕ × ℕ). a.1 < m) rows) (sym is) (numbers_below n f scored doc after inside)) score up)

-- ---- what is read from a document on, up to the next one that may score enough
module _ (n : Numbering) (s now : ScorerState) (scored : List (ℕ × ℕ)) (top_n doc least next : ℕ) (same : now.bounds ≡ s.bounds) (needed : (score : ℕ) → least ≤ score → num_reaching score (scored ++ first_numbered n doc (score_of s)) < top_n) (passed : (d : ℕ) → doc ≤ d → d < next → IsBelow least (score_of s d)) where
  bound_now : (from : ℕ) → least ≤ doc_bound now from → least ≤ doc_bound s from
  bound_now from up = subst (λ (bounds : List ℕ). least ≤ get_or bounds from 0) same up

  pub needed_at : (from : ℕ) → doc ≤ from → from ≤ next → least ≤ doc_bound now from → IsNeeded scored n s top_n from
  needed_at from low high up =
      let reaches = bound_now from up in
      still_needed n (score_of s) scored least (doc_bound s from) top_n doc from low reaches (λ d above inside. passed d above (omega (arith, inside, high))) (needed (doc_bound s from) reaches)

  -- up to the next one
  pub skip_needed : (olds sought : List BlockList) → ReadsOnly (IsNeeded scored n s top_n) olds now.lists → ReadsOnly (MayScore doc least next (doc_bound now)) now.lists sought → ReadsOnly (IsNeeded scored n s top_n) olds sought
  skip_needed olds sought so_far skipped =
      all_on (IsNeeded scored n s top_n) olds now.lists sought so_far
      (all_weaker (MayScore doc least next (doc_bound now)) (IsNeeded scored n s top_n) (λ from may. needed_at from may.low may.up_to may.reaches) now.lists sought skipped)

  -- and at that one
  pub push_needed : (olds sought pushed : List BlockList) → doc ≤ next → (now.lists ≡ []) ⊎ (least ≤ doc_bound now next) → ReadsOnly (IsNeeded scored n s top_n) olds now.lists → ReadsOnly (MayScore doc least next (doc_bound now)) now.lists sought → ReadsOnly (λ (from : ℕ). from ≡ next) sought pushed
      → ReadsOnly (IsNeeded scored n s top_n) olds pushed
  push_needed olds sought pushed low reached so_far skipped here =
      all_on (IsNeeded scored n s top_n) olds sought pushed (skip_needed olds sought so_far skipped) (by reached)
    where
      by : (now.lists ≡ []) ⊎ (least ≤ doc_bound now next) → ReadsOnly (IsNeeded scored n s top_n) sought pushed
      by (inl none) = all_unread (λ (from : ℕ). from ≡ next) (IsNeeded scored n s top_n) sought pushed (all_gone (MayScore doc least next (doc_bound now)) now.lists sought none skipped) here
      by (inr up) = all_weaker (λ (from : ℕ). from ≡ next) (IsNeeded scored n s top_n) (λ from at. subst (IsNeeded scored n s top_n) (sym at) (needed_at next low (omega arith) up)) sought pushed here
