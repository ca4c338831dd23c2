-- Documents of an index are deleted: what is left of its segments is what is left of the index.
use Rattle.std.proofs.Common.{◌≡◌, ◌∙◌, ℕ, zero, suc, ◌+◌, ◌<◌, ◌≤◌, ◌&&◌, ◌||◌, Bool, true, false, List, [], ◌∷◌, ◌++◌, ap, arith, get_or, length, map, nat_eq, not, refl, sym, take}
use Rattle.std.specs.Prelude.{filter, slice_set}
use Rattle.std.specs.List.{range_with_len}
use Rattle.std.proofs.lemmas.Bool.{eqb-false, eqb-true}
use Rattle.std.proofs.lemmas.List.{ext_get_or, get_or-set_other, map-append}
use Rattle.std.proofs.lemmas.List.Elements.{filter-append}
use Rattle.std.proofs.lemmas.List.FromFn.{get_or-map-range_with_len, sum_by-map-range_with_len_more, take-map-range_with_len}
use Rattle.ii_alive.specs.Alive.{num_living, rank}
use Rattle.ii_alive.proofs.RankLemmas.{living_cons, one, rank_below}
use Rattle.ii_definitions.specs.Tokens.{IndexToken}
use Rattle.ii_index.specs.Deletes.{is_among}
use Rattle.ii_segment_store.specs.Changes.{without}
use Rattle.ii_segment_store.proofs.ChangeLaws.{length_without}
use Rattle.ii_segments.specs.Segments.{Segment, at_rank, is_living, living_tokens, num_docs_of, tokens_from}
use Rattle.ii_segments.proofs.MergeLaws.{of_living}

-- ---- flags after deletes
cleared : (alive : List Bool) (doc : ℕ) → is_living (slice_set alive doc false) doc ≡ false
cleared [] zero = refl
cleared [] (suc doc) = refl
cleared (b ∷ bs) zero = refl
cleared (b ∷ bs) (suc doc) = cleared bs doc

living_set : (alive : List Bool) (doc d : ℕ) → is_living (slice_set alive doc false) d ≡ (is_living alive d && not (nat_eq doc d))
living_set alive doc d = by (nat_eq doc d) refl
  where
    and_true : (b : Bool) → b ≡ (b && true)
    and_true true = refl
    and_true false = refl

    and_false : (b : Bool) → false ≡ (b && false)
    and_false true = refl
    and_false false = refl

    by : (same : Bool) → nat_eq doc d ≡ same → is_living (slice_set alive doc false) d ≡ (is_living alive d && not (nat_eq doc d))
    by true is = rw is (ap (is_living (slice_set alive doc false)) (sym (eqb-true doc d is)) ∙ cleared alive doc ∙ and_false (is_living alive d))
    by false is = rw is (get_or-set_other alive doc d false false (λ same. eqb-false doc d is (sym same)) ∙ and_true (is_living alive d))

-- no number more
none_more : (n : ℕ) → n ≡ n + 0
none_more n = omega arith

module _ (keeps : ℕ → Bool) where
  -- how many of the first documents are kept
  abbrev pub kept_before : ℕ → ℕ
  kept_before n = num_living (map keeps (range_with_len 0 n))

  -- the flags of a segment without the documents that aren't kept, given the number of the first living one
  abbrev pub marked : ℕ → List Bool → List Bool
  marked base [] = []
  marked base (b ∷ bs) = (b && keeps base) ∷ marked (base + one b) bs

  kept_more : (n : ℕ) → kept_before (n + 1) ≡ kept_before n + one (keeps n)
  kept_more n = sum_by-map-range_with_len_more one keeps 0 n n (omega arith)

  kept_step : (base : ℕ) (b : Bool) → kept_before (base + one b) ≡ kept_before base + one (b && keeps base)
  kept_step base true = kept_more base
  kept_step base false =
      let same : base + 0 ≡ base = omega arith in
      omega (arith, ap kept_before same)

  pub rank_marked : (base : ℕ) (alive : List Bool) (doc : ℕ) → rank (marked base alive) doc + kept_before base ≡ kept_before (base + rank alive doc)
  rank_marked base [] zero = omega (arith, ap kept_before (none_more base))
  rank_marked base [] (suc doc) = omega (arith, ap kept_before (none_more base))
  rank_marked base (b ∷ bs) zero = omega (arith, ap kept_before (none_more base))
  rank_marked base (b ∷ bs) (suc doc) =
      let after = base + one b in
      let same : after + rank bs doc ≡ base + rank (b ∷ bs) (suc doc) = omega (arith, living_cons b (take doc bs)) in
      omega (arith, living_cons (b && keeps base) (take doc (marked after bs)), rank_marked after bs doc, kept_step base b, ap kept_before same)

  pub living_marked : (base : ℕ) (alive : List Bool) (doc : ℕ) → is_living (marked base alive) doc ≡ (is_living alive doc && keeps (base + rank alive doc))
  living_marked base [] zero = refl
  living_marked base [] (suc doc) = refl
  living_marked base (b ∷ bs) zero = ap (λ (n : ℕ). b && keeps n) (omega arith)
  living_marked base (b ∷ bs) (suc doc) =
      let same : base + one b + rank bs doc ≡ base + rank (b ∷ bs) (suc doc) = omega (arith, living_cons b (take doc bs)) in
      living_marked (base + one b) bs doc ∙ ap (λ (n : ℕ). is_living bs doc && keeps n) same

  pub length_marked : (base : ℕ) (alive : List Bool) → length (marked base alive) ≡ length alive
  length_marked base [] = refl
  length_marked base (b ∷ bs) = ap suc (length_marked (base + one b) bs)

  pub num_marked : (base : ℕ) (alive : List Bool) → num_living (marked base alive) + kept_before base ≡ kept_before (base + num_living alive)
  num_marked base [] = omega (arith, ap kept_before (none_more base))
  num_marked base (b ∷ bs) =
      let after = base + one b in
      let same : after + num_living bs ≡ base + num_living (b ∷ bs) = omega (arith, living_cons b bs) in
      omega (arith, living_cons (b && keeps base) (marked after bs), num_marked after bs, kept_step base b, ap kept_before same)

  -- ---- segments after deletes
  -- segments without the documents that aren't kept, given the number of the first living one
  abbrev pub marked_segments : ℕ → List Segment → List Segment
  marked_segments base [] = []
  marked_segments base (s ∷ ss) = (record { alive = marked base s.alive; tokens = s.tokens }) ∷ marked_segments (base + num_living s.alive) ss

  pub docs_left : (base : ℕ) (ss : List Segment) → num_docs_of (marked_segments base ss) + kept_before base ≡ kept_before (base + num_docs_of ss)
  docs_left base [] = omega (arith, ap kept_before (none_more base))
  docs_left base (s ∷ ss) =
      let after = base + num_living s.alive in
      let same : after + num_docs_of ss ≡ base + (num_living s.alive + num_docs_of ss) = omega arith in
      omega (arith, num_marked base s.alive, docs_left after ss, ap kept_before same)

  module _ (limit : ℕ) where
    abbrev flags : List Bool
    flags = map keeps (range_with_len 0 limit)

    kept_flag : (doc : ℕ) → doc < limit → is_living flags doc ≡ keeps doc
    kept_flag doc below = get_or-map-range_with_len keeps 0 limit doc doc false below (omega arith)

    kept_rank : (doc : ℕ) → doc ≤ limit → rank flags doc ≡ kept_before doc
    kept_rank doc within = ap num_living (take-map-range_with_len keeps 0 limit doc within)

    own_left : (base : ℕ) (alive : List Bool) (us : List IndexToken) → base + num_living alive ≤ limit
        → map (at_rank (kept_before base) (marked base alive)) (filter (of_living (marked base alive)) us) ≡ map (at_rank 0 flags) (filter (of_living flags) (map (at_rank base alive) (filter (of_living alive) us)))
    own_left base alive [] within = refl
    own_left base alive (u ∷ us) within = by (of_living alive u) (keeps (base + rank alive u.doc)) refl refl (own_left base alive us within)
      where
        by : (b c : Bool) → of_living alive u ≡ b → keeps (base + rank alive u.doc) ≡ c
            → map (at_rank (kept_before base) (marked base alive)) (filter (of_living (marked base alive)) us) ≡ map (at_rank 0 flags) (filter (of_living flags) (map (at_rank base alive) (filter (of_living alive) us)))
            → map (at_rank (kept_before base) (marked base alive)) (filter (of_living (marked base alive)) (u ∷ us)) ≡ map (at_rank 0 flags) (filter (of_living flags) (map (at_rank base alive) (filter (of_living alive) (u ∷ us))))
        by false c dead kept rest =
            let gone : of_living (marked base alive) u ≡ false = living_marked base alive u.doc ∙ ap (λ (b : Bool). b && keeps (base + rank alive u.doc)) dead in
            rw (dead, gone) rest
        by true false lives kept rest =
            let small = rank_below alive u.doc lives in
            let doc = base + rank alive u.doc in
            let gone : of_living (marked base alive) u ≡ false = living_marked base alive u.doc ∙ ap (λ (b : Bool). b && keeps doc) lives ∙ kept in
            let gone_there : is_living flags doc ≡ false = kept_flag doc (omega (arith, small, within)) ∙ kept in
            rw (lives, gone, gone_there) rest
        by true true lives kept rest =
            let small = rank_below alive u.doc lives in
            let doc = base + rank alive u.doc in
            let here : of_living (marked base alive) u ≡ true = living_marked base alive u.doc ∙ ap (λ (b : Bool). b && keeps doc) lives ∙ kept in
            let there : is_living flags doc ≡ true = kept_flag doc (omega (arith, small, within)) ∙ kept in
            let number : kept_before base + rank (marked base alive) u.doc ≡ 0 + rank flags doc = omega (arith, rank_marked base alive u.doc, kept_rank doc (omega (arith, small, within))) in
            rw (lives, here, there)
            (ap (λ (n : ℕ). (record u { doc = n }) ∷ map (at_rank (kept_before base) (marked base alive)) (filter (of_living (marked base alive)) us)) number
            ∙ ap (λ (ts : List IndexToken). (record u { doc = 0 + rank flags doc }) ∷ ts) rest)

    pub tokens_left : (base : ℕ) (ss : List Segment) → base + num_docs_of ss ≤ limit
        → tokens_from (kept_before base) (marked_segments base ss) ≡ living_tokens 0 (record { alive = flags; tokens = tokens_from base ss })
    tokens_left base [] within = refl
    tokens_left base (s ∷ ss) within =
        let after = base + num_living s.alive in
        let own = living_tokens base s in
        let later = tokens_from after ss in
        let next : kept_before base + num_living (marked base s.alive) ≡ kept_before after = omega (arith, num_marked base s.alive) in
        let left = map (at_rank 0 flags) (filter (of_living flags) own) in
        ap (λ (ts : List IndexToken). ts ++ tokens_from (kept_before base + num_living (marked base s.alive)) (marked_segments after ss)) (own_left base s.alive s.tokens (omega (arith, within)))
        ∙ ap (λ (n : ℕ). left ++ tokens_from n (marked_segments after ss)) next
        ∙ ap (λ (ts : List IndexToken). left ++ ts) (tokens_left after ss (omega (arith, within)))
        ∙ sym (ap (map (at_rank 0 flags)) (filter-append (of_living flags) own later) ∙ map-append (at_rank 0 flags) (filter (of_living flags) own) (filter (of_living flags) later))

-- ---- deletes of a list of documents
pub living_without : (docs : List ℕ) (alive : List Bool) (d : ℕ) → is_living (without docs alive) d ≡ (is_living alive d && not (is_among docs d))
living_without [] alive d = and_true (is_living alive d)
  where
    and_true : (b : Bool) → b ≡ (b && true)
    and_true true = refl
    and_true false = refl
living_without (doc ∷ docs) alive d =
    living_without docs (slice_set alive doc false) d
    ∙ ap (λ (b : Bool). b && not (is_among docs d)) (living_set alive doc d)
    ∙ regroup (is_living alive d) (nat_eq doc d) (is_among docs d)
  where
    regroup : (a b c : Bool) → ((a && not b) && not c) ≡ (a && not (b || c))
    regroup true true true = refl
    regroup true true false = refl
    regroup true false true = refl
    regroup true false false = refl
    regroup false true true = refl
    regroup false true false = refl
    regroup false false true = refl
    regroup false false false = refl

-- deleted documents are those that aren't kept
pub without_marked : (keeps : ℕ → Bool) (base : ℕ) (docs : List ℕ) (alive : List Bool)
    → ((doc : ℕ) → is_living alive doc ≡ true → not (is_among docs doc) ≡ keeps (base + rank alive doc)) → without docs alive ≡ marked keeps base alive
without_marked keeps base docs alive agree =
    ext_get_or false (without docs alive) (marked keeps base alive) (length_without docs alive ∙ sym (length_marked keeps base alive)) at
  where
    by : (doc : ℕ) (b : Bool) → is_living alive doc ≡ b → (is_living alive doc && not (is_among docs doc)) ≡ (is_living alive doc && keeps (base + rank alive doc))
    by doc true lives = rw lives (agree doc lives)
    by doc false dead = rw dead refl

    at : (doc : ℕ) → doc < length (without docs alive) → get_or (without docs alive) doc false ≡ get_or (marked keeps base alive) doc false
    at doc below = living_without docs alive doc ∙ by doc (is_living alive doc) refl ∙ sym (living_marked keeps base alive doc)
