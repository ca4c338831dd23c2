-- Laws of the best documents.
use Rattle.std.proofs.Common.{◌≡◌, ◌∙◌, ℕ, zero, suc, ◌+◌, ◌<◌, ◌≤◌, inl, inr, Bool, true, false, List, [], ◌∷◌, ◌++◌, Option, None, Some, Vec, Global, Result, Ok, Err, IfErr, IfOk, filter, get_or, is_some, length, min, nat_lt, refl, sym, ap, subst, arith}
use Rattle.std.specs.Prelude.{◌⊎◌}
use Rattle.std.specs.List.{All, Contains, flat_map, range_with_len}
use Rattle.std.proofs.lemmas.Bool.{ltb-false, ltb-true}
use Rattle.std.proofs.lemmas.List.{get_or_default, get_or-take, length-take}
use Rattle.std.proofs.lemmas.List.Concat.{flat_map-cons}
use Rattle.std.proofs.lemmas.List.Elements.{All-append, All-from_recursion, All-nil, All-take, filter_agree}
use Rattle.std.proofs.lemmas.List.Sorted.{All-permutation, Contains-permutation, length_permutation}
use Rattle.ii_io.specs.declared.faults.Fault.{Fault}
use Rattle.ii_io.specs.declared.faults.Fault.TheVariants.{OutOfMemory}
use Rattle.ii_io.specs.Faults.{OnlyMemory}
use Rattle.ii_base.specs.Schema.{SchemaEntry}
use Rattle.ii_definitions.specs.Tokens.{IndexToken}
use Rattle.ii_index.proofs.ScoredLemmas.{scored_there}
use Rattle.ii_indexing.specs.RamFiles.{IsRamFault}
use Rattle.ii_ranking.specs.TokenScores.{GivesBest}
use Rattle.ii_scorer.specs.TopDocs.{AreBest, Precedes, scored_docs, with_score}
use Rattle.ii_scorer.proofs.TopLemmas.{scored_more}

-- no more than are wanted
pub few_best : (limit : ℕ) (scored : List (ℕ × ℕ)) (r : Result (Vec (ℕ × ℕ) Global) Fault) → IfOk r (λ best. AreBest (record { limit = limit; offset = 0 }) scored best.items) → IfOk r (λ best. length best.items ≤ limit)
few_best limit scored (Ok best) b = let many = ap length b.best_are ∙ length-take limit b.ranked in omega (arith, many)
few_best limit scored (Err fault) b = tt

-- two of them are in order
in_order : (limit : ℕ) (scored best : List (ℕ × ℕ)) → AreBest (record { limit = limit; offset = 0 }) scored best → (i j : ℕ) → i ≤ j → j < length best → Precedes (get_or best i (0, 0)) (get_or best j (0, 0))
in_order limit scored best b i j up inside =
    let many = ap length b.best_are ∙ length-take limit b.ranked in
    let first : get_or best i (0, 0) ≡ get_or b.ranked i (0, 0) = ap (λ (row : List (ℕ × ℕ)). get_or row i (0, 0)) b.best_are ∙ get_or-take limit b.ranked i (0, 0) (omega (arith, many, up, inside)) in
    let other : get_or best j (0, 0) ≡ get_or b.ranked j (0, 0) = ap (λ (row : List (ℕ × ℕ)). get_or row j (0, 0)) b.best_are ∙ get_or-take limit b.ranked j (0, 0) (omega (arith, many, inside)) in
    rw (first, other) (b.are_ranked.order i j up (omega (arith, many, inside)))

scores : (a b : ℕ × ℕ) → Precedes a b → b.0 ≤ a.0
scores a b (inl more) = omega (arith, more)
scores a b (inr (same, up)) = omega (arith, same)

docs : (a b : ℕ × ℕ) → Precedes a b → b.0 ≡ a.0 → a.1 ≤ b.1
docs a b (inl more) same = absurd (omega (arith, more, same))
docs a b (inr (same, up)) equal = up

pub best_in_order : (limit : ℕ) (scored : List (ℕ × ℕ)) (r : Result (Vec (ℕ × ℕ) Global) Fault) → IfOk r (λ best. AreBest (record { limit = limit; offset = 0 }) scored best.items)
    → IfOk r (λ best. (i j : ℕ) → i ≤ j → j < length best.items → (get_or best.items j (0, 0)).0 ≤ (get_or best.items i (0, 0)).0)
best_in_order limit scored (Ok best) b = λ i j up inside. scores (get_or best.items i (0, 0)) (get_or best.items j (0, 0)) (in_order limit scored best.items b i j up inside)
best_in_order limit scored (Err fault) b = tt

pub ties_in_order : (limit : ℕ) (scored : List (ℕ × ℕ)) (r : Result (Vec (ℕ × ℕ) Global) Fault) → IfOk r (λ best. AreBest (record { limit = limit; offset = 0 }) scored best.items)
    → IfOk r (λ best. (i j : ℕ) → i ≤ j → j < length best.items → (get_or best.items j (0, 0)).0 ≡ (get_or best.items i (0, 0)).0 → (get_or best.items i (0, 0)).1 ≤ (get_or best.items j (0, 0)).1)
ties_in_order limit scored (Ok best) b = λ i j up inside same. docs (get_or best.items i (0, 0)) (get_or best.items j (0, 0)) (in_order limit scored best.items b i j up inside) same
ties_in_order limit scored (Err fault) b = tt

module _ (score_of : ℕ → Option ℕ) where
  -- A document below a number has this score.
  abbrev pub IsScored : ℕ → ℕ × ℕ → Type 0
  IsScored num_docs b = (b.1 < num_docs) × (score_of b.1 ≡ Some b.0)

  one_scored : (n : ℕ) (score : Option ℕ) → score_of n ≡ score → All (IsScored (n + 1)) (with_score score n)
  one_scored n None is = All-nil (IsScored (n + 1))
  one_scored n (Some score) is = All-from_recursion (IsScored (n + 1)) ((score, n) ∷ []) ((omega arith, is), tt)

  -- those that have a score have it
  all_scored : (n : ℕ) → All (IsScored n) (scored_docs n score_of)
  all_scored zero = All-nil (IsScored 0)
  all_scored (suc n) =
      let more : n + 1 ≡ suc n = omega arith in
      subst (λ (k : ℕ). All (IsScored k) (scored_docs k score_of)) more
      (subst (All (IsScored (n + 1))) (sym (scored_more (λ (doc : ℕ). doc) n score_of))
      (All-append (IsScored (n + 1)) (scored_docs n score_of) (with_score (score_of n) n) (λ k d inside. let own = all_scored n k d inside in (omega (arith, own.0), own.1)) (one_scored n (score_of n) refl)))

module _ (limit num_docs : ℕ) (score_of : ℕ → Option ℕ) (best : List (ℕ × ℕ)) (b : AreBest (record { limit = limit; offset = 0 }) (scored_docs num_docs score_of) best) where
  -- each of the best has its score
  pub best_scored : All (IsScored score_of num_docs) best
  best_scored = subst (All (IsScored score_of num_docs)) (sym b.best_are) (All-take (IsScored score_of num_docs) limit b.ranked (All-permutation (IsScored score_of num_docs) (scored_docs num_docs score_of) b.ranked b.are_ranked.same (all_scored score_of num_docs)))

  -- a document that isn't among the best doesn't score more than one of them
  pub best_greatest : (doc score : ℕ) → doc < num_docs → score_of doc ≡ Some score → Contains best (score, doc) ⊎ All (λ (a : ℕ × ℕ). score ≤ a.0) best
  best_greatest doc score below is = at (Contains-permutation (scored_docs num_docs score_of) b.ranked (score, doc) b.are_ranked.same (scored_there score_of num_docs doc score below is))
    where
      at : Contains b.ranked (score, doc) → Contains best (score, doc) ⊎ All (λ (a : ℕ × ℕ). score ≤ a.0) best
      at (k, inside, here) = by (nat_lt k limit) refl
        where
          many : length best ≡ min limit (length b.ranked)
          many = ap length b.best_are ∙ length-take limit b.ranked

          by : (t : Bool) → nat_lt k limit ≡ t → Contains best (score, doc) ⊎ All (λ (a : ℕ × ℕ). score ≤ a.0) best
          by true low =
              let low = ltb-true k limit low in
              inl (k, omega (arith, many, low, inside), ap (λ (row : List (ℕ × ℕ)). get_or row k (score, doc)) b.best_are ∙ get_or-take limit b.ranked k (score, doc) low ∙ here)
          by false high =
              let high = ltb-false k limit high in
              inr (λ i d within. worse i d (omega (arith, many, within)) (omega (arith, many, within, high)) within)
            where
              worse : (i : ℕ) (d : ℕ × ℕ) → i < limit → i ≤ k → i < length best → score ≤ (get_or best i d).0
              worse i d low up within =
                  let own : get_or best i d ≡ get_or b.ranked i (0, 0) = get_or_default best i d (0, 0) within ∙ ap (λ (row : List (ℕ × ℕ)). get_or row i (0, 0)) b.best_are ∙ get_or-take limit b.ranked i (0, 0) low in
                  let other : get_or b.ranked k (0, 0) ≡ (score, doc) = get_or_default b.ranked k (0, 0) (score, doc) inside ∙ here in
                  let first : get_or best i d ≡ get_or b.ranked i (0, 0) = own in
                  rw first (before (get_or b.ranked i (0, 0)) (subst (Precedes (get_or b.ranked i (0, 0))) other (b.are_ranked.order i k up inside)))
                where
                  before : (a : ℕ × ℕ) → Precedes a (score, doc) → score ≤ a.0
                  before a (inl more) = omega (arith, more)
                  before a (inr (same, below)) = omega (arith, same)

  -- as many as have a score, but no more than are wanted
  pub best_many : length best ≡ min limit (length (filter (λ (doc : ℕ). is_some (score_of doc)) (range_with_len 0 num_docs)))
  best_many =
      ap length b.best_are ∙ length-take limit b.ranked
      ∙ ap (min limit) (length_permutation (scored_docs num_docs score_of) b.ranked b.are_ranked.same ∙ many_scored (range_with_len 0 num_docs))
    where
      many_scored : (docs : List ℕ) → length (flat_map (λ (doc : ℕ). with_score (score_of doc) doc) docs) ≡ length (filter (λ (doc : ℕ). is_some (score_of doc)) docs)
      many_scored [] = refl
      many_scored (doc ∷ docs) =
          ap length (flat_map-cons (λ (d : ℕ). with_score (score_of d) d) doc docs) ∙ by (score_of doc) refl (many_scored docs)
        where
          by : (score : Option ℕ) → score_of doc ≡ score → length (flat_map (λ (d : ℕ). with_score (score_of d) d) docs) ≡ length (filter (λ (d : ℕ). is_some (score_of d)) docs)
              → length (with_score (score_of doc) doc ++ flat_map (λ (d : ℕ). with_score (score_of d) d) docs) ≡ length (filter (λ (d : ℕ). is_some (score_of d)) (doc ∷ docs))
          by None is later = rw is later
          by (Some score) is later = rw is (ap suc later)

-- the best, or no memory
pub given_best : (limit : ℕ) (scored : List (ℕ × ℕ)) (r : Result (Vec (ℕ × ℕ) Global) Fault) → IfOk r (λ best. AreBest (record { limit = limit; offset = 0 }) scored best.items) → OnlyMemory r → GivesBest (record { limit = limit; offset = 0 }) scored r
given_best limit scored (Ok best) are only = are
given_best limit scored (Err fault) are only = only

module _ (limit num_docs : ℕ) (score_of : ℕ → Option ℕ) where
  -- what is returned
  pub gives_scored : (r : Result (Vec (ℕ × ℕ) Global) Fault) → GivesBest (record { limit = limit; offset = 0 }) (scored_docs num_docs score_of) r → IfOk r (λ best. All (λ (a : ℕ × ℕ). (a.1 < num_docs) × (score_of a.1 ≡ Some a.0)) best.items)
  gives_scored (Ok best) gives = best_scored limit num_docs score_of best.items gives
  gives_scored (Err fault) gives = tt

  pub gives_greatest : (r : Result (Vec (ℕ × ℕ) Global) Fault) → GivesBest (record { limit = limit; offset = 0 }) (scored_docs num_docs score_of) r
      → IfOk r (λ best. (doc score : ℕ) → doc < num_docs → score_of doc ≡ Some score → Contains best.items (score, doc) ⊎ All (λ (a : ℕ × ℕ). score ≤ a.0) best.items)
  gives_greatest (Ok best) gives = λ doc score below is. best_greatest limit num_docs score_of best.items gives doc score below is
  gives_greatest (Err fault) gives = tt

  pub gives_many : (holds : ℕ → Bool) (r : Result (Vec (ℕ × ℕ) Global) Fault) → GivesBest (record { limit = limit; offset = 0 }) (scored_docs num_docs score_of) r → ((doc : ℕ) → is_some (score_of doc) ≡ holds doc)
      → IfOk r (λ best. length best.items ≡ min limit (length (filter holds (range_with_len 0 num_docs))))
  gives_many holds (Ok best) gives same = best_many limit num_docs score_of best.items gives ∙ ap (λ (docs : List ℕ). min limit (length docs)) (filter_agree (λ (doc : ℕ). is_some (score_of doc)) holds same (range_with_len 0 num_docs))
  gives_many holds (Err fault) gives same = tt

  -- a search fails only for an allocation
  pub refused_best : (entries : List SchemaEntry) (n : ℕ) (ts : List IndexToken) (r : Result (Vec (ℕ × ℕ) Global) Fault) → GivesBest (record { limit = limit; offset = 0 }) (scored_docs num_docs score_of) r → IfErr r (λ e. (e ≡ OutOfMemory) ⊎ IsRamFault entries n ts e)
  refused_best entries n ts (Ok best) gives = tt
  refused_best entries n ts (Err fault) gives = inl gives
