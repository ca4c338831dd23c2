-- How a document is deleted.
use Rattle.std.proofs.Common.{◌≡◌, ◌≢◌, ℕ, zero, suc, ◌+◌, ◌<◌, ◌≤◌, Bool, true, false, not, List, [], ◌∷◌, ◌++◌, length, map, replicate, nat_eq, slice_index_or, slice_set, take, refl, sym, ap, arith}
use Rattle.std.specs.List.{list_any, range_with_len}
use Rattle.std.proofs.lemmas.Bool.{eq-eqb, ne_eqb}
use Rattle.std.proofs.lemmas.List.{take_more}
use Rattle.std.proofs.lemmas.List.Folds.{list_any-append}
use Rattle.std.proofs.Math.Bool.{or-false, or-true}
use Rattle.ii_base.specs.AliveBitSet.{alive_but}

all_alive_from : (first n : ℕ) → replicate n true ≡ map (λ (doc : ℕ). true) (range_with_len first n)
all_alive_from first zero = refl
all_alive_from first (suc n) = ap (λ (later : List Bool). true ∷ later) (all_alive_from (first + 1) n)

pub all_alive : (n : ℕ) → replicate n true ≡ alive_but [] n
all_alive n = all_alive_from 0 n

-- two functions that agree from a number on
map_same : (f g : ℕ → Bool) (first n : ℕ) → ((x : ℕ) → first ≤ x → f x ≡ g x) → map f (range_with_len first n) ≡ map g (range_with_len first n)
map_same f g first zero same = refl
map_same f g first (suc n) same =
    rw (same first (omega arith), map_same f g (first + 1) n (λ x low. same x (omega (arith, low)))) refl

-- one place is overwritten
set-map : (f g : ℕ → Bool) (first n i doc : ℕ) → i < n → doc ≡ first + i → g doc ≡ false → ((x : ℕ) → x ≢ doc → f x ≡ g x) → slice_set (map f (range_with_len first n)) i false ≡ map g (range_with_len first n)
set-map f g first zero i doc within place out same = absurd (omega (arith, within))
set-map f g first (suc n) zero doc within place out same =
    let here : doc ≡ first = omega (arith, place) in
    let dead : g first ≡ false = rw (← here) out in
    rw (dead, map_same f g (first + 1) n (λ x low. same x (λ e. omega (arith, low, e, here)))) refl
set-map f g first (suc n) (suc i) doc within place out same =
    rw (same first (λ e. omega (arith, e, place)), set-map f g (first + 1) n i doc (omega (arith, within)) (omega (arith, place)) out same) refl

-- one more is deleted
deleted_more : (docs : List ℕ) (n doc : ℕ) → doc < n → slice_set (alive_but docs n) doc false ≡ alive_but (docs ++ doc ∷ []) n
deleted_more docs n doc within =
    set-map (λ x. not (list_any (λ d. nat_eq d x) docs)) (λ x. not (list_any (λ d. nat_eq d x) (docs ++ doc ∷ []))) 0 n doc doc within (omega arith)
    (rw (list_any-append (λ d. nat_eq d doc) docs (doc ∷ []), eq-eqb doc doc refl, or-true (list_any (λ d. nat_eq d doc) docs)) refl)
    (λ x other. rw (list_any-append (λ d. nat_eq d x) docs (doc ∷ []), ne_eqb doc x (λ e. other (sym e)), or-false (list_any (λ d. nat_eq d x) docs)) refl)

pub one_deleted : (flags : List Bool) (docs : List ℕ) (i n : ℕ) → flags ≡ alive_but (take i docs) n → i < length docs → slice_index_or docs i 0 < n → slice_set flags (slice_index_or docs i 0) false ≡ alive_but (take (i + 1) docs) n
one_deleted flags docs i n known within low = rw (known, take_more docs i 0 within) (deleted_more (take i docs) n (slice_index_or docs i 0) low)
