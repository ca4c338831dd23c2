-- The bits of a number.
use Rattle.std.proofs.Common.{◌≡◌, ℕ, zero, suc, ◌+◌, ◌-◌, ◌*◌, ◌/◌, ◌%◌, ◌^◌, ◌<◌, ◌≤◌, Bool, true, false, cond, not, List, [], ◌∷◌, ◌++◌, length, get_or, set, take, drop, replicate, nat_eq, refl, sym, ap, ◌∙◌, arith, inl, inr, ⊎_elim, ◌⊎◌}
use Rattle.std.specs.List.{list_all}
use Rattle.std.specs.Int.RustNames.{count_ones}
use lib.Count.{ones_step}
use Rattle.std.proofs.Math.Nat.{pow-suc, div-one, div-eq_of_lt}
use Rattle.std.proofs.lemmas.Bool.{cases_lt}
use Rattle.std.proofs.lemmas.Bool.Decides.{nat_tests}
use Rattle.std.proofs.lemmas.Nat.{mod-pow-add, pow_pos, shr-shr}
use Rattle.std.proofs.lemmas.List.{drop_at, take_at}
use Rattle.std.proofs.lemmas.List.Sums.{sum_by-cons}
use Rattle.ii_alive.specs.Alive.{num_living}
use Rattle.ii_alive.specs.AliveBytes.{bits_of, number_of_bits}

pub length-bits_of : (k n : ℕ) → length (bits_of k n) ≡ k
unfolding bits_of
length-bits_of zero n = refl
length-bits_of (suc k) n = ap suc (length-bits_of k (n / 2))

half_twice : (n j : ℕ) → n / 2 / 2 ^ j ≡ n / 2 ^ suc j
half_twice n j = let more : 1 + j ≡ suc j = omega arith in shr-shr n 1 j ∙ ap (λ (m : ℕ). n / 2 ^ m) more

-- the lower bits, and the others
pub bits_of-add : (j k n : ℕ) → bits_of (j + k) n ≡ bits_of j n ++ bits_of k (n / 2 ^ j)
unfolding bits_of
bits_of-add zero k n =
    let none : 0 + k ≡ k = omega arith in
    ap (λ (m : ℕ). bits_of m n) none ∙ ap (bits_of k) (sym (div-one n))
bits_of-add (suc j) k n =
    let more : suc j + k ≡ suc (j + k) = omega arith in
    ap (λ (m : ℕ). bits_of m n) more
    ∙ ap (λ (bs : List Bool). nat_eq (n % 2) 1 ∷ bs) (bits_of-add j k (n / 2) ∙ ap (λ (m : ℕ). bits_of j (n / 2) ++ bits_of k m) (half_twice n j))

pub take-bits_of : (j k n : ℕ) → j ≤ k → take j (bits_of k n) ≡ bits_of j n
take-bits_of j k n within =
    let split : k ≡ j + (k - j) = omega arith in
    ap (λ (m : ℕ). take j (bits_of m n)) split
    ∙ ap (take j) (bits_of-add j (k - j) n)
    ∙ take_at (bits_of j n) (bits_of (k - j) (n / 2 ^ j)) j (length-bits_of j n)

pub drop-bits_of : (j k n : ℕ) → j ≤ k → drop j (bits_of k n) ≡ bits_of (k - j) (n / 2 ^ j)
drop-bits_of j k n within =
    let split : k ≡ j + (k - j) = omega arith in
    ap (λ (m : ℕ). drop j (bits_of m n)) split
    ∙ ap (drop j) (bits_of-add j (k - j) n)
    ∙ drop_at (bits_of j n) (bits_of (k - j) (n / 2 ^ j)) j (length-bits_of j n)

pub get_or-bits_of : (k n i : ℕ) → i < k → get_or (bits_of k n) i false ≡ nat_eq (n / 2 ^ i % 2) 1
unfolding bits_of
get_or-bits_of zero n i within = absurd (omega arith)
get_or-bits_of (suc k) n zero within = ap (λ (m : ℕ). nat_eq (m % 2) 1) (sym (div-one n))
get_or-bits_of (suc k) n (suc i) within = get_or-bits_of k (n / 2) i (omega arith) ∙ ap (λ (m : ℕ). nat_eq (m % 2) 1) (half_twice n i)

parity : (n : ℕ) → (n % 2 ≡ 0) ⊎ (n % 2 ≡ 1)
parity n = ⊎_elim (λ (below : n % 2 < 1). inl (omega arith)) (λ (above : 1 ≤ n % 2). inr (omega arith)) (cases_lt (n % 2) 1)

pub at_least : (m q : ℕ) → m / q % 2 ≡ 1 → q ≤ m
at_least m q is = ⊎_elim (λ (below : m < q). let none : m / q ≡ 0 = div-eq_of_lt {n = m} {m = q} below in absurd (omega arith)) (λ (enough : q ≤ m). enough) (cases_lt m q)

-- a number without one of its bits
pub bits_of-clear : (k n i : ℕ) → n / 2 ^ i % 2 ≡ 1 → bits_of k (n - 2 ^ i) ≡ set (bits_of k n) i false
unfolding bits_of
bits_of-clear zero n i is = refl
bits_of-clear (suc k) n zero is =
    let odd : n % 2 ≡ 1 = ap (λ (m : ℕ). m % 2) (sym (div-one n)) ∙ is in
    let low : (n - 1) % 2 ≡ 0 = omega arith in
    let high : (n - 1) / 2 ≡ n / 2 = omega arith in
    rw (low, high) refl
bits_of-clear (suc k) n (suc i) is =
    let p = 2 ^ i in
    let double : 2 ^ suc i ≡ 2 * p = let twice = pow-suc 2 i in omega arith in
    let at_half : n / 2 / p % 2 ≡ 1 = ap (λ (m : ℕ). m % 2) (half_twice n i) ∙ is in
    let some : p ≤ n / 2 = at_least (n / 2) p at_half in
    let low : (n - 2 * p) % 2 ≡ n % 2 = omega arith in
    let high : (n - 2 * p) / 2 ≡ n / 2 - p = omega arith in
    ap (λ (m : ℕ). nat_eq ((n - m) % 2) 1 ∷ bits_of k ((n - m) / 2)) double
    ∙ ap (λ (m : ℕ). nat_eq m 1 ∷ bits_of k ((n - 2 * p) / 2)) low
    ∙ ap (λ (m : ℕ). nat_eq (n % 2) 1 ∷ bits_of k m) high
    ∙ ap (λ (bs : List Bool). nat_eq (n % 2) 1 ∷ bs) (bits_of-clear k (n / 2) i at_half)

abbrev one : Bool → ℕ
one b = cond b 1 0

bit_value : (n : ℕ) → one (nat_eq (n % 2) 1) ≡ n % 2
bit_value n = ⊎_elim (λ (even : n % 2 ≡ 0). rw even refl) (λ (odd : n % 2 ≡ 1). rw odd refl) (parity n)

mod_low : (k n : ℕ) → n % 2 ^ suc k % 2 ≡ n % 2
mod_low k n =
    let split = mod-pow-add n k 1 in
    let more : k + 1 ≡ suc k = omega arith in
    let same : n % 2 ^ suc k ≡ (n / 2 % 2 ^ k) * 2 + n % 2 = ap (λ (m : ℕ). n % 2 ^ m) (sym more) ∙ split in
    omega arith

mod_high : (k n : ℕ) → n % 2 ^ suc k / 2 ≡ n / 2 % 2 ^ k
mod_high k n =
    let split = mod-pow-add n k 1 in
    let more : k + 1 ≡ suc k = omega arith in
    let same : n % 2 ^ suc k ≡ (n / 2 % 2 ^ k) * 2 + n % 2 = ap (λ (m : ℕ). n % 2 ^ m) (sym more) ∙ split in
    omega arith

-- the bits that are 1
pub ones-bits_of : (k n : ℕ) → num_living (bits_of k n) ≡ count_ones (n % 2 ^ k)
unfolding bits_of count_ones
ones-bits_of zero n = let none : n % 1 ≡ 0 = omega arith in sym (ap count_ones none)
ones-bits_of (suc k) n =
    let ih : num_living (bits_of k (n / 2)) ≡ count_ones (n / 2 % 2 ^ k) = ones-bits_of k (n / 2) in
    let first : num_living (nat_eq (n % 2) 1 ∷ bits_of k (n / 2)) ≡ one (nat_eq (n % 2) 1) + num_living (bits_of k (n / 2)) = sum_by-cons one (nat_eq (n % 2) 1) (bits_of k (n / 2)) in
    let value = bit_value n in
    let step = ones_step (n % 2 ^ suc k) in
    let low = mod_low k n in
    let high = ap count_ones (mod_high k n) in
    omega (arith, first, value, step, low, high, ih)

half_none : (n : ℕ) → n % 2 ≡ 0 → nat_eq (n / 2) 0 ≡ nat_eq n 0
half_none n even = grind (arith, nat_tests)

some_none : (n : ℕ) → n % 2 ≡ 1 → false ≡ nat_eq n 0
some_none n odd = grind (arith, nat_tests)

-- whether all bits are 0
pub none-bits_of : (k n : ℕ) → n < 2 ^ k → list_all not (bits_of k n) ≡ nat_eq n 0
unfolding bits_of
none-bits_of zero n below = let none : n ≡ 0 = omega arith in rw none refl
none-bits_of (suc k) n below =
    let double = pow-suc 2 k in
    let ih = none-bits_of k (n / 2) (omega arith) in
    ⊎_elim (λ (even : n % 2 ≡ 0). rw even (ih ∙ half_none n even)) (λ (odd : n % 2 ≡ 1). rw odd (some_none n odd)) (parity n)

pub bits_of-ones : (k : ℕ) → bits_of k (2 ^ k - 1) ≡ replicate k true
unfolding bits_of
bits_of-ones zero = refl
bits_of-ones (suc k) =
    let some = pow_pos k in
    let double = pow-suc 2 k in
    let low : (2 ^ suc k - 1) % 2 ≡ 1 = omega arith in
    let high : (2 ^ suc k - 1) / 2 ≡ 2 ^ k - 1 = omega arith in
    rw (low, high) (ap (λ (bs : List Bool). true ∷ bs) (bits_of-ones k))

pub bits_of-zero : (k : ℕ) → bits_of k 0 ≡ replicate k false
unfolding bits_of
bits_of-zero zero = refl
bits_of-zero (suc k) = ap (λ (bs : List Bool). false ∷ bs) (bits_of-zero k)

-- only the lower bits matter
pub bits_of-mod : (k n : ℕ) → bits_of k (n % 2 ^ k) ≡ bits_of k n
unfolding bits_of
bits_of-mod zero n = refl
bits_of-mod (suc k) n =
    rw (mod_low k n, mod_high k n) (ap (λ (bs : List Bool). nat_eq (n % 2) 1 ∷ bs) (bits_of-mod k (n / 2)))

-- a number of bits, and more bits than these
pub bits_of-number : (bs : List Bool) (k : ℕ) → bits_of (length bs + k) (number_of_bits bs) ≡ bs ++ replicate k false
unfolding bits_of
bits_of-number [] k = let none : 0 + k ≡ k = omega arith in ap (λ (m : ℕ). bits_of m 0) none ∙ bits_of-zero k
bits_of-number (b ∷ bs) k =
    let more : suc (length bs) + k ≡ suc (length bs + k) = omega arith in
    ap (λ (m : ℕ). bits_of m (number_of_bits (b ∷ bs))) more ∙ by b (bits_of-number bs k)
  where
    by : (c : Bool) → bits_of (length bs + k) (number_of_bits bs) ≡ bs ++ replicate k false → bits_of (suc (length bs + k)) (number_of_bits (c ∷ bs)) ≡ c ∷ (bs ++ replicate k false)
    by true ih =
        let low : (1 + 2 * number_of_bits bs) % 2 ≡ 1 = omega arith in
        let high : (1 + 2 * number_of_bits bs) / 2 ≡ number_of_bits bs = omega arith in
        rw (low, high) (ap (λ (l : List Bool). true ∷ l) ih)
    by false ih =
        let low : (0 + 2 * number_of_bits bs) % 2 ≡ 0 = omega arith in
        let high : (0 + 2 * number_of_bits bs) / 2 ≡ number_of_bits bs = omega arith in
        rw (low, high) (ap (λ (l : List Bool). false ∷ l) ih)

-- a number is that of its bits
pub number_of-bits_of : (k n : ℕ) → n < 2 ^ k → number_of_bits (bits_of k n) ≡ n
unfolding bits_of
number_of-bits_of zero n below = omega arith
number_of-bits_of (suc k) n below =
    let double = pow-suc 2 k in
    let ih = number_of-bits_of k (n / 2) (omega arith) in
    let value = bit_value n in
    omega (arith, ih, value)

pub number_of_bits-lt : (bs : List Bool) → number_of_bits bs < 2 ^ length bs
number_of_bits-lt [] = omega arith
number_of_bits-lt (true ∷ bs) = let double = pow-suc 2 (length bs) in let ih = number_of_bits-lt bs in omega arith
number_of_bits-lt (false ∷ bs) = let double = pow-suc 2 (length bs) in let ih = number_of_bits-lt bs in omega arith
