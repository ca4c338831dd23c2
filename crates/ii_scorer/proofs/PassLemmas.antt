-- Documents that score too little to be kept.
use Rattle.std.proofs.Common.{◌≡◌, ◌∙◌, inl, inr, min, nat_lt, OnOk, Result, nat_le, ℕ, zero, suc, ◌+◌, ◌-◌, ◌^◌, ◌<◌, ◌≤◌, List, ◌++◌, Option, None, Some, append-nil, append_assoc, if◌then◌else◌, refl, sym, ap, subst, arith, Bool, true, false}
use Rattle.std.proofs.lemmas.Bool.{ltb-false, ltb-true}
use Rattle.ii_base.specs.declared.doc_id.TheConstants.{TERMINATED}
use Rattle.ii_scorer.specs.BestDocs.{Numbering, counted_score, first_numbered}
use Rattle.ii_scorer.specs.Scorers.{IsBelow, IsBounded, IsPassed, IsUpTo, ScorerState, if_at_least, score_of}
use Rattle.ii_scorer.specs.TopDocs.{with_score}
use Rattle.ii_scorer.specs.TopNComputer.{KeepsBest, MayBePassed, TopNState}
use Rattle.ii_scorer.proofs.ScorerLemmas.{none_at_least}
use Rattle.ii_scorer.proofs.TopLemmas.{scored_more}
use Rattle.ii_scorer.proofs.TopNLemmas.{passes_one}

-- one document more, if it has a score
pub passes_scored : (scored : List (ℕ × ℕ)) (s : TopNState) (score : Option ℕ) (number least : ℕ) → least ≤ 2 ^ 64 → number < 2 ^ 32 → IsBelow least score → ((n : ℕ) → n < least → MayBePassed s (n, number)) → KeepsBest scored s → KeepsBest (scored ++ with_score score number) s
passes_scored scored s None number least few small below may h = subst (λ (xs : List (ℕ × ℕ)). KeepsBest xs s) (sym (append-nil scored)) h
passes_scored scored s (Some n) number least few small below may h =
    let pass = may n below in
    passes_one scored s (n, number) pass.key (record { score = omega (arith, below, few); doc = small }) pass.wanted pass.above h

pub below_counted : (n : Numbering) (f : ℕ → Option ℕ) (least doc : ℕ) → IsBelow least (f doc) → IsBelow least (counted_score n f doc)
below_counted n f least doc below = by (n.counts doc)
  where
    by : (t : Bool) → IsBelow least (if t then f doc else None)
    by true = below
    by false = tt

-- documents in turn
pub passes_on : (n : Numbering) (f : ℕ → Option ℕ) (scored : List (ℕ × ℕ)) (s : TopNState) (least from more : ℕ) → least ≤ 2 ^ 64 → ((d : ℕ) → from ≤ d → d < from + more → (n.number d < 2 ^ 32) × IsBelow least (f d) × ((k : ℕ) → k < least → MayBePassed s (k, n.number d)))
    → KeepsBest (scored ++ first_numbered n from f) s → KeepsBest (scored ++ first_numbered n (from + more) f) s
passes_on n f scored s least from zero few each h = let same : from ≡ from + 0 = omega arith in subst (λ (k : ℕ). KeepsBest (scored ++ first_numbered n k f) s) same h
passes_on n f scored s least from (suc more) few each h =
    let before = passes_on n f scored s least from more few (λ d low inside. each d low (omega (arith, inside))) h in
    let here = each (from + more) (omega arith) (omega arith) in
    let next : from + more + 1 ≡ from + suc more = omega arith in
    subst (λ (k : ℕ). KeepsBest (scored ++ first_numbered n k f) s) next
    (subst (λ (row : List (ℕ × ℕ)). KeepsBest row s)
    (append_assoc scored (first_numbered n (from + more) f) (with_score (counted_score n f (from + more)) (n.number (from + more))) ∙ ap (λ (row : List (ℕ × ℕ)). scored ++ row) (sym (scored_more n.number (from + more) (counted_score n f))))
    (passes_scored (scored ++ first_numbered n (from + more) f) s (counted_score n f (from + more)) (n.number (from + more)) least few here.0 (below_counted n f least (from + more) here.1) here.2 before))

pub passes_to : (n : Numbering) (f : ℕ → Option ℕ) (scored : List (ℕ × ℕ)) (s : TopNState) (least from to : ℕ) → least ≤ 2 ^ 64 → from ≤ to → ((d : ℕ) → from ≤ d → d < to → (n.number d < 2 ^ 32) × IsBelow least (f d) × ((k : ℕ) → k < least → MayBePassed s (k, n.number d)))
    → KeepsBest (scored ++ first_numbered n from f) s → KeepsBest (scored ++ first_numbered n to f) s
passes_to n f scored s least from to few low each h =
    let whole : from + (to - from) ≡ to = omega (arith, low) in
    subst (λ (k : ℕ). KeepsBest (scored ++ first_numbered n k f) s) whole (passes_on n f scored s least from (to - from) few (λ d up inside. each d up (omega (arith, inside, whole))) h)

-- and one that is pushed
pub numbered_more : (n : Numbering) (f g : ℕ → Option ℕ) (scored : List (ℕ × ℕ)) (doc : ℕ) (s : TopNState) → g doc ≡ f doc → KeepsBest ((scored ++ first_numbered n doc f) ++ with_score (counted_score n g doc) (n.number doc)) s → KeepsBest (scored ++ first_numbered n (doc + 1) f) s
numbered_more n f g scored doc s same h =
    subst (λ (row : List (ℕ × ℕ)). KeepsBest row s)
    (append_assoc scored (first_numbered n doc f) (with_score (counted_score n g doc) (n.number doc))
    ∙ ap (λ (row : List (ℕ × ℕ)). scored ++ row) (ap (λ (score : Option ℕ). first_numbered n doc f ++ with_score (if n.counts doc then score else None) (n.number doc)) same ∙ sym (scored_more n.number doc (counted_score n f)))) h

-- a document is pushed if it scores enough, else passed
pub pushes_scored : {A E : Type 0} (scored : List (ℕ × ℕ)) (old new : TopNState) (r : Result A E) (least number : ℕ) (score given : Option ℕ) → least < 2 ^ 64 → number < 2 ^ 32 → given ≡ if_at_least least score → ((n : ℕ) → n < least → MayBePassed old (n, number))
    → ((xs : List (ℕ × ℕ)) → KeepsBest xs old → OnOk r (KeepsBest (xs ++ with_score given number) new)) → KeepsBest scored old → OnOk r (KeepsBest (scored ++ with_score score number) new)
pushes_scored scored old new r least number score given few small is may pushed h = by given is refl
  where
    some_is : (s : Option ℕ) (n : ℕ) → Some n ≡ if_at_least least s → Some n ≡ s
    some_is None n is = absurd (cc)
    some_is (Some m) n is = at (nat_le least m) is
      where
        at : (t : Bool) → Some n ≡ (if t then Some m else None) → Some n ≡ Some m
        at true is = is
        at false is = absurd (cc)

    by : (g : Option ℕ) → g ≡ if_at_least least score → given ≡ g → OnOk r (KeepsBest (scored ++ with_score score number) new)
    by None none same =
        let all = passes_scored scored old score number least (omega (arith, few)) small (none_at_least least score (sym none)) may h in
        subst (λ (xs : List (ℕ × ℕ)). OnOk r (KeepsBest xs new)) (append-nil (scored ++ with_score score number))
        (subst (λ (g : Option ℕ). OnOk r (KeepsBest ((scored ++ with_score score number) ++ with_score g number) new)) same (pushed (scored ++ with_score score number) all))
    by (Some n) some same = subst (λ (s : Option ℕ). OnOk r (KeepsBest (scored ++ with_score s number) new)) (same ∙ some_is score n some) (pushed scored h)

-- each document that there is, is passed by a move beyond the last one
pub past_end : (next num_docs doc : ℕ) → min num_docs TERMINATED ≤ next → doc < num_docs → IsPassed next doc
past_end next num_docs doc end inside = by (nat_lt doc next) refl
  where
    by : (t : Bool) → nat_lt doc next ≡ t → IsPassed next doc
    by true is = inl (ltb-true doc next is)
    by false is = let low = ltb-false doc next is in inr (omega (arith, end, inside, low))

-- a score has 64 bits
pub below_all : (s : ScorerState) (doc : ℕ) → IsBounded s → IsBelow (2 ^ 64) (score_of s doc)
below_all s doc bounded = by (score_of s doc) (bounded.each doc)
  where
    by : (score : Option ℕ) → IsUpTo s.most score → IsBelow (2 ^ 64) score
    by None up = tt
    by (Some n) up = omega (arith, up, bounded.fits)
