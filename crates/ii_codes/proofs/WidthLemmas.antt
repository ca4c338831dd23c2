-- Laws of widths. Of the m powers of two from 2 ^ a on, those not above n are counted.
use Rattle.std.proofs.Common.{◌≡◌, ℕ, zero, suc, ◌+◌, ◌-◌, ◌^◌, ◌<◌, ◌≤◌, ◌≢◌, Bool, true, false, List, [], ◌∷◌, ◌++◌, length, slice_index, max, nat_le, bit_or, refl, ap, arith, cond, count_by, ⊎_elim}
use Rattle.std.proofs.Math.Nat.{two-pow-succ}
use Rattle.std.proofs.Math.Pow.{pow_mono}
use Rattle.std.proofs.lemmas.Bool.{leb-true, leb-false, cases_lt}
use Rattle.std.proofs.lemmas.List.Sums.{sum_by-cons}
use Rattle.std.proofs.lemmas.Nat.{leading_length, or_lt, le_or_l, le_or_r}
use Rattle.std.specs.Int.Count.{count_leading_zeros}
use Rattle.std.specs.List.{range_with_len}
use Rattle.ii_codes.specs.Packed.{num_bits, least_width, HoldsFromLeastWidth}

abbrev powers_from : ℕ → ℕ → ℕ → ℕ
powers_from n a m = count_by (λ k. nat_le (2 ^ k) n) (range_with_len a m)

fits_cases : (n a c : ℕ) (b : Bool) → nat_le (2 ^ a) n ≡ b → n < 2 ^ (a + 1 + c) → n < 2 ^ (a + (cond b 1 0 + c))
fits_cases n a c true e h = let place : a + (1 + c) ≡ a + 1 + c = omega arith in rw place h
fits_cases n a c false e h =
    let none : 0 + c ≡ c = omega arith in
    let above = leb-false (2 ^ a) n e in
    let more = pow_mono {i = a} {j = a + c} (omega arith) in
    rw none (omega arith)

fits_powers : (m a n : ℕ) → n < 2 ^ (a + m) → n < 2 ^ (a + powers_from n a m)
fits_powers zero a n h = h
fits_powers (suc m) a n h =
    let place : a + suc m ≡ a + 1 + m = omega arith in
    let ih = fits_powers m (a + 1) n (rw place at h) in
    rw (sum_by-cons (λ k. cond (nat_le (2 ^ k) n) 1 0) a (range_with_len (a + 1) m)) (fits_cases n a (powers_from n (a + 1) m) (nat_le (2 ^ a) n) refl ih)

-- a number fits as many bits as it takes
pub num_bits-fits : (n : ℕ) → n < 2 ^ 64 → n < 2 ^ num_bits n
unfolding num_bits
num_bits-fits n h =
    let place : 0 + powers_from n 0 64 ≡ powers_from n 0 64 = omega arith in
    let fits = fits_powers 64 0 n h in
    rw place at fits

least_cases : (n a c w : ℕ) (b : Bool) → nat_le (2 ^ a) n ≡ b → n < 2 ^ w → a ≤ w → (a < w → a + 1 + c ≤ w) → (n < 2 ^ a → a + 1 + c ≤ a + 1) → a + (cond b 1 0 + c) ≤ w
least_cases n a c w true e fits reach more none =
    let reached = leb-true (2 ^ a) n e in
    let apart : a ≢ w = λ same. let power = ap (λ (x : ℕ). 2 ^ x) same in absurd (omega arith) in
    let further = more (omega arith) in
    omega arith
least_cases n a c w false e fits reach more none =
    let above = leb-false (2 ^ a) n e in
    let stays = none above in
    omega arith

least_powers : (m a n w : ℕ) → n < 2 ^ w → a ≤ w → a + powers_from n a m ≤ w
least_powers zero a n w fits reach = omega arith
least_powers (suc m) a n w fits reach =
    rw (sum_by-cons (λ k. cond (nat_le (2 ^ k) n) 1 0) a (range_with_len (a + 1) m)) (least_cases n a (powers_from n (a + 1) m) w (nat_le (2 ^ a) n) refl fits reach
    (λ more. least_powers m (a + 1) n w fits (omega arith))
    (λ above. least_powers m (a + 1) n (a + 1) (let twice = two-pow-succ a in let next : a + 1 ≡ suc a = omega arith in rw next (omega arith)) (omega arith)))

-- and no fewer
pub num_bits-least : (n w : ℕ) → n < 2 ^ w → num_bits n ≤ w
unfolding num_bits
num_bits-least n w h = let all = least_powers 64 0 n w h (omega arith) in omega arith

-- what is left of m bits after the leading zeros
pub num_bits-leading_of : (m n : ℕ) → m ≤ 64 → n < 2 ^ m → m - count_leading_zeros m n ≡ num_bits n
num_bits-leading_of m n few h =
    let found = leading_length m n h in
    let sum = found.1 in
    let wide = pow_mono {i = m} {j = 64} few in
    let least = num_bits-least n found.0 found.2 in
    let fits = num_bits-fits n (omega arith) in
    let top = found.3 in
    ⊎_elim
    (λ below.
    let twice = two-pow-succ (num_bits n) in
    let more = pow_mono {i = suc (num_bits n)} {j = found.0} below in
    absurd (omega arith))
    (λ above. omega arith)
    (cases_lt (num_bits n) found.0)

pub num_bits-leading : (n : ℕ) → n < 2 ^ 64 → 64 - count_leading_zeros 64 n ≡ num_bits n
num_bits-leading n h = num_bits-leading_of 64 n (omega arith) h

-- the bits of two numbers together take as many as the greater one's
pub num_bits-or : (a b : ℕ) → a < 2 ^ 32 → b < 2 ^ 32 → num_bits (bit_or a b) ≡ max (num_bits a) (num_bits b)
num_bits-or a b fits_a fits_b =
    let both = or_lt 32 a b fits_a fits_b in
    let m = max (num_bits a) (num_bits b) in
    let left = num_bits-fits a (omega arith) in
    let right = num_bits-fits b (omega arith) in
    let wide_a = pow_mono {i = num_bits a} {j = max (num_bits a) (num_bits b)} (omega arith) in
    let wide_b = pow_mono {i = num_bits b} {j = max (num_bits a) (num_bits b)} (omega arith) in
    let most = num_bits-least (bit_or a b) (max (num_bits a) (num_bits b)) (or_lt (max (num_bits a) (num_bits b)) a b (omega arith) (omega arith)) in
    let whole = num_bits-fits (bit_or a b) (omega arith) in
    let first = num_bits-least a (num_bits (bit_or a b)) (let le = le_or_l a b in omega arith) in
    let second = num_bits-least b (num_bits (bit_or a b)) (let le = le_or_r a b in omega arith) in
    omega arith

-- the least width of all is that of the first or of the others
pub least_width-fits : (es : List ℕ) → ((k : ℕ) → k < length es → slice_index es k < 2 ^ 64) → (k : ℕ) → k < length es → slice_index es k < 2 ^ least_width es
least_width-fits [] h k within = absurd (omega arith)
least_width-fits (e ∷ es) h zero within =
    let first = num_bits-fits e (h 0 (omega arith)) in
    let more = pow_mono {i = num_bits e} {j = max (num_bits e) (least_width es)} (omega arith) in
    omega arith
least_width-fits (e ∷ es) h (suc k) within =
    let other = least_width-fits es (λ j small. h (suc j) (omega arith)) k (omega arith) in
    let more = pow_mono {i = least_width es} {j = max (num_bits e) (least_width es)} (omega arith) in
    omega arith

pub least_width-least : (es : List ℕ) (w : ℕ) → ((k : ℕ) → k < length es → slice_index es k < 2 ^ w) → least_width es ≤ w
least_width-least [] w h = omega arith
least_width-least (e ∷ es) w h =
    let first = num_bits-least e w (h 0 (omega arith)) in
    let others = least_width-least es w (λ k small. h (suc k) (omega arith)) in
    omega arith

pub holds_from_least_width : HoldsFromLeastWidth
holds_from_least_width w es h = (
  least_width-least es w,
  λ wide k within.
      let fits = least_width-fits es h k within in
      let more = pow_mono {i = least_width es} {j = w} wide in
      omega arith,
)

-- one entry more at the end
pub least_width-push : (es : List ℕ) (e : ℕ) → least_width (es ++ e ∷ []) ≡ max (least_width es) (num_bits e)
least_width-push [] e = omega arith
least_width-push (x ∷ es) e =
    let ih = least_width-push es e in
    rw ih (omega arith)
