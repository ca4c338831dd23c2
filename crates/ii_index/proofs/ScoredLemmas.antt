-- The documents that have a score.
use Rattle.std.proofs.Common.{◌≡◌, ℕ, zero, suc, ◌+◌, ◌<◌, Bool, true, false, List, ◌++◌, Option, Some, arith, nat_lt, refl, subst, sym}
use Rattle.std.specs.List.{Contains}
use Rattle.std.proofs.lemmas.Bool.{ltb-false, ltb-true}
use Rattle.std.proofs.lemmas.List.Elements.{Contains-append_left, Contains-append_right}
use Rattle.ii_scorer.specs.TopDocs.{scored_docs, with_score}
use Rattle.ii_scorer.proofs.TopLemmas.{scored_more}

-- each of them is among those of the documents below a number
pub scored_there : (score_of : ℕ → Option ℕ) (n doc score : ℕ) → doc < n → score_of doc ≡ Some score → Contains (scored_docs n score_of) (score, doc)
scored_there score_of zero doc score below is = absurd (omega (arith, below))
scored_there score_of (suc n) doc score below is =
    let more : n + 1 ≡ suc n = omega arith in
    subst (λ (k : ℕ). Contains (scored_docs k score_of) (score, doc)) more
    (subst (λ (row : List (ℕ × ℕ)). Contains row (score, doc)) (sym (scored_more (λ (d : ℕ). d) n score_of)) (by (λ low. scored_there score_of n doc score low is) (nat_lt doc n) refl))
  where
    by : (doc < n → Contains (scored_docs n score_of) (score, doc)) → (t : Bool) → nat_lt doc n ≡ t → Contains (scored_docs n score_of ++ with_score (score_of n) n) (score, doc)
    by earlier true low = Contains-append_left (scored_docs n score_of) (with_score (score_of n) n) (score, doc) (earlier (ltb-true doc n low))
    by earlier false high =
        let up = ltb-false doc n high in
        let last : doc ≡ n = omega (arith, below, up) in
        Contains-append_right (scored_docs n score_of) (with_score (score_of n) n) (score, doc)
        (subst (λ (d : ℕ). Contains (with_score (score_of d) d) (score, doc)) last (rw is (0, omega arith, refl)))
