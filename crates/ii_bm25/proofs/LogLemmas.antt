-- Laws of the logarithm.
use Rattle.std.proofs.Common.{◌≡◌, ℕ, zero, suc, ◌+◌, ◌-◌, ◌*◌, ◌/◌, ◌%◌, ◌^◌, ◌<◌, ◌≤◌, ◌⊎◌, inl, inr, Bool, true, false, nat_lt, refl, sym, ap, ◌∙◌, arith}
use Rattle.std.proofs.Math.Nat.{pow-le-pow_right}
use Rattle.std.proofs.lemmas.Bool.{ltb-true, ltb-false, lt-ltb, le-ltb}
use Rattle.std.proofs.lemmas.Nat.{div_below, le-div, leading_top, mul-le, mul-lt, pow_pos}
use Rattle.ii_bm25.specs.Log.{Float, LogRises, exponent_after, float_of, highest_bit, log2_fixed, squared}
use Rattle.ii_bm25.proofs.ScoreLemmas.{div_rises}

-- One number isn't above another: its exponent is less, or the same and its mantissa isn't greater.
abbrev pub IsUpTo : Float → Float → Type 0
IsUpTo f g = (f.exponent < g.exponent) ⊎ ((f.exponent ≡ g.exponent) × (f.mantissa ≤ g.mantissa))

-- so it is of their squares
squared_up : (f g : Float) → IsUpTo f g → IsUpTo (squared f) (squared g)
squared_up f g (inl less) = by (nat_lt (f.mantissa * f.mantissa) (2 ^ 63)) refl (nat_lt (g.mantissa * g.mantissa) (2 ^ 63)) refl
  where
    by : (s : Bool) → nat_lt (f.mantissa * f.mantissa) (2 ^ 63) ≡ s → (t : Bool) → nat_lt (g.mantissa * g.mantissa) (2 ^ 63) ≡ t → IsUpTo (squared f) (squared g)
    by true s true t = rw (s, t) (inl (omega (arith, less)))
    by true s false t = rw (s, t) (inl (omega (arith, less)))
    by false s true t = rw (s, t) (inl (omega (arith, less)))
    by false s false t = rw (s, t) (inl (omega (arith, less)))
squared_up f g (inr both) = by (nat_lt (f.mantissa * f.mantissa) (2 ^ 63)) refl (nat_lt (g.mantissa * g.mantissa) (2 ^ 63)) refl
  where
    squares : f.mantissa * f.mantissa ≤ g.mantissa * g.mantissa
    squares = mul-le f.mantissa f.mantissa g.mantissa g.mantissa both.1 both.1

    by : (s : Bool) → nat_lt (f.mantissa * f.mantissa) (2 ^ 63) ≡ s → (t : Bool) → nat_lt (g.mantissa * g.mantissa) (2 ^ 63) ≡ t → IsUpTo (squared f) (squared g)
    by true s true t = rw (s, t) (inr (ap (λ (e : ℕ). 2 * e) both.0, div_rises (f.mantissa * f.mantissa) (g.mantissa * g.mantissa) (2 ^ 31) (omega arith) squares))
    by true s false t = let same = both.0 in rw (s, t) (inl (omega arith))
    by false s true t =
        let high = ltb-false (f.mantissa * f.mantissa) (2 ^ 63) s in
        let low = ltb-true (g.mantissa * g.mantissa) (2 ^ 63) t in
        let order = squares in
        absurd (omega arith)
    by false s false t = rw (s, t) (inr (ap (λ (e : ℕ). 2 * e + 1) both.0, div_rises (f.mantissa * f.mantissa) (g.mantissa * g.mantissa) (2 ^ 32) (omega arith) squares))

less_or : (d e : ℕ) → d < e → d ≤ e
less_or d e less = omega (arith, less)

same_or : (d e : ℕ) → d ≡ e → d ≤ e
same_or d e same = omega (arith, same)

exponents_up : (n : ℕ) (f g : Float) → IsUpTo f g → exponent_after n f ≤ exponent_after n g
exponents_up zero f g (inl less) = less_or f.exponent g.exponent less
exponents_up zero f g (inr both) = same_or f.exponent g.exponent both.0
exponents_up (suc n) f g up = exponents_up n (squared f) (squared g) (squared_up f g up)

-- the highest bit of a number
pub highest : (x : ℕ) → 0 < x → x < 2 ^ 64 → (2 ^ highest_bit x ≤ x) × (x < 2 ^ suc (highest_bit x))
highest x some fits =
    let top = leading_top 64 x some fits in
    let split = top.1 in
    let place : highest_bit x ≡ top.0 = omega arith in
    rw place (top.2, top.3)

-- numbers in order begin in order
begin_up : (x y : ℕ) → 0 < x → x ≤ y → y < 2 ^ 64 → IsUpTo (float_of x) (float_of y)
begin_up x y some order fits = by (nat_lt (highest_bit x) (highest_bit y)) refl (nat_lt (highest_bit y) (highest_bit x)) refl
  where
    at_x : (2 ^ highest_bit x ≤ x) × (x < 2 ^ suc (highest_bit x))
    at_x = highest x some (omega arith)

    at_y : (2 ^ highest_bit y ≤ y) × (y < 2 ^ suc (highest_bit y))
    at_y = highest y (omega arith) fits

    by : (s : Bool) → nat_lt (highest_bit x) (highest_bit y) ≡ s → (t : Bool) → nat_lt (highest_bit y) (highest_bit x) ≡ t → IsUpTo (float_of x) (float_of y)
    by true s t u = inl (ltb-true (highest_bit x) (highest_bit y) s)
    by false s true t =
        let below = ltb-true (highest_bit y) (highest_bit x) t in
        let powers : 2 ^ suc (highest_bit y) ≤ 2 ^ highest_bit x = pow-le-pow_right {n = 2} (omega arith) {i = suc (highest_bit y)} {j = highest_bit x} below in
        let least = at_x.0 in
        let most = at_y.1 in
        absurd (omega arith)
    by false s false t =
        let up = ltb-false (highest_bit x) (highest_bit y) s in
        let down = ltb-false (highest_bit y) (highest_bit x) t in
        let same : highest_bit x ≡ highest_bit y = omega arith in
        inr (same, rw same (div_rises (x * 2 ^ 31) (y * 2 ^ 31) (2 ^ highest_bit y) (pow_pos (highest_bit y)) (omega arith)))

pub log_rises : LogRises
unfolding log2_fixed
log_rises x y some order fits = exponents_up 26 (float_of x) (float_of y) (begin_up x y some order fits)

-- What the loop keeps: a number of which so many squarings are left to the logarithm.
pub record IsSquaring (x exponent mantissa left : ℕ) : Type 0 where
  pub low : 2 ^ 31 ≤ mantissa
  pub high : mantissa < 2 ^ 32
  pub fits : (exponent + 1) * 2 ^ left ≤ 2 ^ 32
  pub value : exponent_after left (record { exponent = exponent; mantissa = mantissa }) ≡ log2_fixed x

pub begins : (x exponent shifted : ℕ) → 0 < x → x < 2 ^ 64 → shifted ≡ x → exponent ≡ highest_bit x
    → IsSquaring x exponent (shifted * 2147483648 % 340282366920938463463374607431768211456 / 2 ^ exponent) 26
unfolding log2_fixed
begins x exponent shifted some fits same here =
    let top = highest x some fits in
    let least : 2 ^ highest_bit x ≤ x = top.0 in
    let most : x < 2 ^ suc (highest_bit x) = top.1 in
    let next : 2 ^ suc (highest_bit x) ≡ 2 * 2 ^ highest_bit x = omega arith in
    let power = pow_pos (highest_bit x) in
    let whole : x * 2147483648 % 340282366920938463463374607431768211456 ≡ x * 2147483648 = omega arith in
    rw (same, here, whole) (record {
      low = le-div (2 ^ 31) (x * 2 ^ 31) (2 ^ highest_bit x) power (omega arith);
      high = div_below (x * 2 ^ 31) (2 ^ highest_bit x) (2 ^ 32) power (omega arith);
      fits = omega arith;
      value = refl;
    })

-- a squaring uses up one doubling of the room of an exponent
room_left : (e p q : ℕ) → q ≡ 2 * p → (e + 1) * q ≤ 2 ^ 32 → ((2 * e + 1) * p ≤ 2 ^ 32) × ((2 * e + 1 + 1) * p ≤ 2 ^ 32)
room_left e p q is room =
    let twice : (e + 1) * (2 * p) ≤ 2 ^ 32 = rw is at room in
    (omega arith, omega arith)

pub squares_low : (x e m left : ℕ) → IsSquaring x e m left → 0 < left → m * m < 2 ^ 63 → IsSquaring x (2 * e) (m * m / 2 ^ 31) (left - 1)
squares_low x e m zero k some below = absurd (omega arith)
squares_low x e m (suc n) k some below =
    let test = lt-ltb (m * m) (2 ^ 63) below in
    let same : squared (record { exponent = e; mantissa = m }) ≡ record { exponent = 2 * e; mantissa = m * m / 2 ^ 31 } = rw test refl in
    let least = mul-le (2 ^ 31) (2 ^ 31) m m k.low k.low in
    let next : 2 ^ suc n ≡ 2 * 2 ^ n = omega arith in
    let room = room_left e (2 ^ n) (2 ^ suc n) next k.fits in
    let down : suc n - 1 ≡ n = omega arith in
    rw down (record {
      low = le-div (2 ^ 31) (m * m) (2 ^ 31) (omega arith) (omega arith);
      high = div_below (m * m) (2 ^ 31) (2 ^ 32) (omega arith) (omega arith);
      fits = room.0;
      value = ap (exponent_after n) (sym same) ∙ k.value;
    })

pub squares_high : (x e m left : ℕ) → IsSquaring x e m left → 0 < left → 2 ^ 63 ≤ m * m → IsSquaring x (2 * e + 1) (m * m / 2 ^ 32) (left - 1)
squares_high x e m zero k some above = absurd (omega arith)
squares_high x e m (suc n) k some above =
    let test = le-ltb (m * m) (2 ^ 63) above in
    let same : squared (record { exponent = e; mantissa = m }) ≡ record { exponent = 2 * e + 1; mantissa = m * m / 2 ^ 32 } = rw test refl in
    let most = mul-lt m m (2 ^ 32) (2 ^ 32) k.high k.high in
    let next : 2 ^ suc n ≡ 2 * 2 ^ n = omega arith in
    let room = room_left e (2 ^ n) (2 ^ suc n) next k.fits in
    let down : suc n - 1 ≡ n = omega arith in
    rw down (record {
      low = le-div (2 ^ 31) (m * m) (2 ^ 32) (omega arith) (omega arith);
      high = div_below (m * m) (2 ^ 32) (2 ^ 32) (omega arith) (omega arith);
      fits = room.1;
      value = ap (exponent_after n) (sym same) ∙ k.value;
    })
