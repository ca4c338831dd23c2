-- Laws of the best documents.
use Rattle.std.proofs.Common.{◌≡◌, ℕ, zero, suc, ◌+◌, ◌-◌, ◌^◌, ◌<◌, ◌≤◌, inl, inr, Bool, true, false, List, [], ◌∷◌, ◌++◌, Option, None, drop, get_or, length, map, min, nat_lt, take, refl, sym, ap, ◌∙◌, arith}
use Rattle.std.proofs.lemmas.Bool.{ltb-true, ltb-false}
use Rattle.std.specs.List.{flat_map, range_with_len}
use Rattle.std.proofs.lemmas.Grind.{flat_map-append}
use Rattle.std.proofs.lemmas.List.FromFn.{get_or-map-range_with_len, length-map-range_with_len}
use Rattle.ii_definitions.proofs.ListLaws.{range_append}
use Rattle.std.proofs.lemmas.List.{append-nil, drop-take, drop_all, take_all}
use Rattle.ii_scorer.specs.TopDocs.{Precedes, rank_key, scored_by_number, scored_docs, with_score}

-- the order of keys is that of documents with their scores
pub ranks : (a b : ℕ × ℕ) → a.0 < 2 ^ 64 → b.0 < 2 ^ 64 → a.1 < 2 ^ 32 → b.1 < 2 ^ 32 → rank_key a ≤ rank_key b → Precedes a b
ranks a b few also small low up = by (nat_lt b.0 a.0) refl (nat_lt a.0 b.0) refl
  where
    by : (t : Bool) → nat_lt b.0 a.0 ≡ t → (s : Bool) → nat_lt a.0 b.0 ≡ s → Precedes a b
    by true less s more = inl (ltb-true b.0 a.0 less)
    by false less true more = let above = ltb-true a.0 b.0 more in absurd (omega arith)
    by false less false more =
        let up_to = ltb-false b.0 a.0 less in
        let down_to = ltb-false a.0 b.0 more in
        inr (omega arith, let same : b.0 ≡ a.0 = omega arith in omega arith)

-- what is passed of a row that may be shorter
passes : (offset passed : ℕ) (row : List (ℕ × ℕ)) → passed ≡ min offset (length row) → drop passed row ≡ drop offset row
passes offset passed row is = by (nat_lt offset (length row)) refl
  where
    by : (t : Bool) → nat_lt offset (length row) ≡ t → drop passed row ≡ drop offset row
    by true inside = let below = ltb-true offset (length row) inside in ap (λ (n : ℕ). drop n row) (omega arith)
    by false outside =
        let above = ltb-false offset (length row) outside in
        drop_all passed row (omega arith) ∙ sym (drop_all offset row above)

-- what is taken of a row that has no more
takes : (most wanted end : ℕ) (row : List (ℕ × ℕ)) → length row ≤ most → end ≡ min most wanted → take end row ≡ take wanted row
takes most wanted end row few is = by (nat_lt most wanted) refl
  where
    by : (t : Bool) → nat_lt most wanted ≡ t → take end row ≡ take wanted row
    by true more = let above = ltb-true most wanted more in take_all end row (omega arith) ∙ sym (take_all wanted row (omega arith))
    by false all = let below = ltb-false most wanted all in ap (λ (n : ℕ). take n row) (omega arith)

-- as many as are wanted, after those that are passed
pub best_are : (offset limit end passed : ℕ) (ranked : List (ℕ × ℕ)) → length ranked < 2 ^ 64 → end ≡ min (2 ^ 64 - 1) (offset + limit) → passed ≡ min offset (length (take end ranked))
    → drop passed (take end ranked) ≡ take limit (drop offset ranked)
best_are offset limit end passed ranked few end_is passed_is =
    passes offset passed (take end ranked) passed_is ∙ ap (drop offset) (takes (2 ^ 64 - 1) (offset + limit) end ranked (omega arith) end_is) ∙ drop-take offset limit ranked

-- one document more
pub scored_more : (number : ℕ → ℕ) (n : ℕ) (score_of : ℕ → Option ℕ) → scored_by_number number (n + 1) score_of ≡ scored_by_number number n score_of ++ with_score (score_of n) (number n)
scored_more number n score_of =
    let here : 0 + n ≡ n = omega arith in
    ap (flat_map (λ (doc : ℕ). with_score (score_of doc) (number doc))) (range_append 0 n 1 ∙ ap (λ (k : ℕ). range_with_len 0 n ++ k ∷ []) here)
    ∙ flat_map-append (λ (doc : ℕ). with_score (score_of doc) (number doc)) (range_with_len 0 n) (n ∷ [])
    ∙ ap (λ (row : List (ℕ × ℕ)). scored_by_number number n score_of ++ row) (append-nil (with_score (score_of n) (number n)))

-- the same scores
pub scored_alike : (number : ℕ → ℕ) (n : ℕ) (f g : ℕ → Option ℕ) → ((doc : ℕ) → doc < n → f doc ≡ g doc) → scored_by_number number n f ≡ scored_by_number number n g
scored_alike number zero f g same = refl
scored_alike number (suc n) f g same =
    let more : suc n ≡ n + 1 = omega arith in
    ap (λ (k : ℕ). scored_by_number number k f) more ∙ scored_more number n f ∙ (λ j. scored_alike number n f g (λ doc below. same doc (omega (arith, below))) j ++ with_score (same n (omega arith) j) (number n))
    ∙ sym (scored_more number n g) ∙ ap (λ (k : ℕ). scored_by_number number k g) (sym more)

-- those of a list of scores
pub scored_rows : (n : ℕ) (f : ℕ → Option ℕ) (scores : List (Option ℕ)) → scores ≡ map f (range_with_len 0 n) → scored_docs (length scores) (λ (doc : ℕ). get_or scores doc None) ≡ scored_docs n f
scored_rows n f scores is =
    let many : length scores ≡ n = ap length is ∙ length-map-range_with_len f 0 n in
    ap (λ (k : ℕ). scored_docs k (λ (doc : ℕ). get_or scores doc None)) many
    ∙ scored_alike (λ (doc : ℕ). doc) n (λ (doc : ℕ). get_or scores doc None) f (λ doc below. ap (λ (row : List (Option ℕ)). get_or row doc None) is ∙ get_or-map-range_with_len f 0 n doc doc None below (omega arith))
