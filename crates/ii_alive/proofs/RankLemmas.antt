-- Ranks of documents.
use Rattle.std.proofs.Common.{◌≡◌, ℕ, zero, suc, ◌+◌, ◌<◌, ◌≤◌, Bool, true, false, cond, true≢false, List, [], ◌∷◌, get_or, replicate, take, sym, ap, ◌∙◌, arith}
use Rattle.std.proofs.lemmas.List.Folds.{sum_by-replicate}
use Rattle.std.proofs.lemmas.List.Sums.{sum_by-cons}
use Rattle.ii_alive.specs.Alive.{num_living, rank}

abbrev pub one : Bool → ℕ
one b = cond b 1 0

-- one flag more
pub living_cons : (b : Bool) (bs : List Bool) → num_living (b ∷ bs) ≡ one b + num_living bs
living_cons b bs = sum_by-cons one b bs

-- all documents are alive
pub all_living : (n : ℕ) → num_living (replicate n true) ≡ n
all_living n = sum_by-replicate one n true ∙ omega arith

-- the rank of a living document is less than the number of living documents
pub rank_below : (alive : List Bool) (doc : ℕ) → get_or alive doc false ≡ true → rank alive doc < num_living alive
rank_below [] doc living = absurd (true≢false (sym living))
rank_below (b ∷ bs) zero living =
    let more : num_living (b ∷ bs) ≡ 1 + num_living bs = living_cons b bs ∙ ap (λ (c : Bool). one c + num_living bs) living in
    omega (arith, more)
rank_below (b ∷ bs) (suc doc) living =
    omega (arith, living_cons b bs, living_cons b (take doc bs), rank_below bs doc living)

-- ranks don't fall
pub rank_mono : (alive : List Bool) (doc later : ℕ) → doc ≤ later → rank alive doc ≤ rank alive later
rank_mono [] zero zero within = omega arith
rank_mono [] zero (suc later) within = omega arith
rank_mono [] (suc doc) zero within = omega arith
rank_mono [] (suc doc) (suc later) within = omega arith
rank_mono (b ∷ bs) zero later within = omega arith
rank_mono (b ∷ bs) (suc doc) zero within = absurd (omega arith)
rank_mono (b ∷ bs) (suc doc) (suc later) within = omega (arith, living_cons b (take doc bs), living_cons b (take later bs), rank_mono bs doc later (omega arith))

-- the rank of a living document is less than that of each later document
pub rank_strict : (alive : List Bool) (doc later : ℕ) → get_or alive doc false ≡ true → doc < later → rank alive doc < rank alive later
rank_strict [] doc later living after = absurd (true≢false (sym living))
rank_strict (b ∷ bs) doc zero living after = absurd (omega arith)
rank_strict (b ∷ bs) zero (suc later) living after =
    let more : num_living (b ∷ take later bs) ≡ 1 + num_living (take later bs) = living_cons b (take later bs) ∙ ap (λ (c : Bool). one c + num_living (take later bs)) living in
    omega (arith, more)
rank_strict (b ∷ bs) (suc doc) (suc later) living after = omega (arith, living_cons b (take doc bs), living_cons b (take later bs), rank_strict bs doc later living (omega arith))
