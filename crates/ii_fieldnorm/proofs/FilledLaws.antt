-- A list that is filled up with zeros.
use Rattle.std.proofs.Common.{◌≡◌, ℕ, zero, suc, ◌+◌, ◌-◌, ◌<◌, List, [], ◌∷◌, ◌++◌, map, length, take, replicate, get_or, ap, sym, refl, ◌∙◌, arith}
use Rattle.std.specs.List.{range_with_len}
use Rattle.ii_fieldnorm.specs.Buffers.{filled}

pub filled_none : (n : ℕ) → filled (suc n) [] ≡ 0 ∷ filled n []
filled_none zero = refl
filled_none (suc n) =
    let same : suc (suc n) - 0 ≡ suc (suc n) = omega arith in
    let less : suc n - 0 ≡ suc n = omega arith in
    ap (λ (m : ℕ). replicate m 0) same ∙ ap (λ (m : ℕ). 0 ∷ replicate m 0) (sym less)

pub filled_more : (n id : ℕ) (ids : List ℕ) → filled (suc n) (id ∷ ids) ≡ id ∷ filled n ids
filled_more n id ids =
    let same : suc n - suc (length ids) ≡ n - length ids = omega arith in
    ap (λ (m : ℕ). id ∷ (take n ids ++ replicate m 0)) same

pub filled_zero : (ids : List ℕ) → filled 0 ids ≡ []
filled_zero [] = refl
filled_zero (id ∷ ids) =
    let same : 0 - suc (length ids) ≡ 0 = omega arith in
    ap (λ (m : ℕ). replicate {A = ℕ} m 0) same

-- a list that has at each place what a function gives
pub filled_is : (f : ℕ → ℕ) (n first : ℕ) (ids : List ℕ) → ((x : ℕ) → x < n → get_or ids x 0 ≡ f (first + x)) → filled n ids ≡ map f (range_with_len first n)
filled_is f zero first ids h = filled_zero ids
filled_is f (suc n) first [] h =
    let here : 0 ≡ f first = h 0 (omega arith) ∙ ap f (omega arith) in
    let rest = filled_is f n (first + 1) [] (λ x low. h (suc x) (omega (arith, low)) ∙ ap f (omega arith)) in
    filled_none n ∙ ap (λ (y : ℕ). y ∷ filled n []) here ∙ ap (λ (xs : List ℕ). f first ∷ xs) rest
filled_is f (suc n) first (id ∷ ids) h =
    let here : id ≡ f first = h 0 (omega arith) ∙ ap f (omega arith) in
    let rest = filled_is f n (first + 1) ids (λ x low. h (suc x) (omega (arith, low)) ∙ ap f (omega arith)) in
    filled_more n id ids ∙ ap (λ (y : ℕ). y ∷ filled n ids) here ∙ ap (λ (xs : List ℕ). f first ∷ xs) rest

pub length_filled : (n : ℕ) (ids : List ℕ) → length (filled n ids) ≡ n
length_filled zero ids = ap length (filled_zero ids)
length_filled (suc n) [] = ap length (filled_none n) ∙ ap (λ (m : ℕ). suc m) (length_filled n [])
length_filled (suc n) (id ∷ ids) = ap length (filled_more n id ids) ∙ ap (λ (m : ℕ). suc m) (length_filled n ids)
