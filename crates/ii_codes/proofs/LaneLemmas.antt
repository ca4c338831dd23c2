-- Laws of lanes: entries of a block, eight at a time.
use Rattle.std.proofs.Common.{◌≡◌, ℕ, zero, suc, ◌+◌, ◌-◌, ◌*◌, ◌/◌, ◌%◌, ◌^◌, ◌<◌, ◌≤◌, Bool, true, false, List, [], ◌∷◌, ◌++◌, length, take, drop, map, get_or, replicate, nat_lt, nat_le, refl, sym, ap, ◌∙◌, arith, cond, append_assoc, ⊎_elim}
use lib.Dec.{leb}
use lib.Lanes.{Each1, chunk, number_l, digits_l}
use mir.Syntax.{w8}
use Rattle.std.proofs.Math.Nat.{suc-mul, mul-le-mul_right}
use Rattle.std.proofs.Math.Pow.{pow_mono}
use Rattle.std.proofs.lemmas.Bool.{lt-leb, le-leb, lt-ltb, le-ltb, cases_lt}
use Rattle.std.proofs.lemmas.Nat.{div-mul-add, mod-mul-add, shl_whole, pow-add}
use Rattle.std.proofs.lemmas.List.{get_or-take, get_or-drop, drop_more, drop_all, take_all, append-nil, get_or-map}
use Rattle.std.proofs.lemmas.List.Sums.{sum_by-cons}
use Rattle.std.specs.Bool.{OnTrue}
use Rattle.std.specs.List.{sum}
use Rattle.std.proofs.lemmas.Simd.{swz_l, get_or-chunk, get_or_wider}
use Rattle.ii_codes.specs.Packed.{bits_in, unpacked}
use Rattle.ii_codes.specs.Blocks.{values_from}
use Rattle.ii_codes.specs.Sums.{fit_u32}
use Rattle.ii_codes.proofs.PackedLemmas.{bits_in-lt}
use Rattle.ii_codes.proofs.PrefixLemmas.{wrapped_from, on_true, fit_wrapped, last_fits, last_value}
use Rattle.ii_codes.proofs.PackedLaws.{length-unpacked, get_or-unpacked}
use Rattle.ii_codes.proofs.WindowLemmas.{bits_in-split, little_bits}
use Rattle.ii_codes.proofs.LengthLemmas.{length-values_from}

cut_core : (l m h p a q : ℕ) → l < p → m < q → 0 < a → (l + p * (m + q * h)) * a % (q * (p * a)) / (p * a) ≡ m
cut_core l m h p a q small narrow some =
    let sum : (l + p * (m + q * h)) * a ≡ h * (q * (p * a)) + (m * (p * a) + l * a) = omega arith in
    let row : suc l * a ≤ p * a = mul-le-mul_right a small in
    let inner : l * a < p * a = omega (arith, row, suc-mul l a) in
    let rows : suc m * (p * a) ≤ q * (p * a) = mul-le-mul_right (p * a) narrow in
    let below : m * (p * a) + l * a < q * (p * a) = omega (arith, rows, suc-mul m (p * a)) in
    rw (sum, mod-mul-add h (q * (p * a)) (m * (p * a) + l * a) below) (div-mul-add m (p * a) (l * a) inner)

power_some : (a : ℕ) → 0 < 2 ^ a
power_some a = omega (arith, bits_in-lt 8 [] 0 a)

-- w bits of a lane of m bits, from bit r on
pub lane_cut : (m : ℕ) (row : List ℕ) (place w r x : ℕ) → x ≡ bits_in 8 row place m → 1 ≤ w → w + r ≤ m → x * (1 * 2 ^ (m - w - r) % 2 ^ m) % 2 ^ m / 2 ^ (m - w) ≡ bits_in 8 row (place + r) w
lane_cut m row place w r x e some within =
    let one : 1 * 2 ^ (m - w - r) % 2 ^ m ≡ 1 * 2 ^ (m - w - r) = shl_whole 1 1 (m - w - r) m (omega arith) (omega arith) in
    let power : 1 * 2 ^ (m - w - r) ≡ 2 ^ (m - w - r) = omega arith in
    let whole : m ≡ r + (w + (m - w - r)) = omega arith in
    let above : m - w ≡ r + (m - w - r) = omega arith in
    let order : m ≡ w + (r + (m - w - r)) = omega arith in
    let low = bits_in-split 8 row place r (w + (m - w - r)) in
    let mid = bits_in-split 8 row (place + r) w (m - w - r) in
    let value : x ≡ bits_in 8 row place r + 2 ^ r * (bits_in 8 row (place + r) w + 2 ^ w * bits_in 8 row (place + r + w) (m - w - r)) = e ∙ ap (bits_in 8 row place) whole ∙ low ∙ ap (λ (y : ℕ). bits_in 8 row place r + 2 ^ r * y) mid in
    let high : 2 ^ (m - w) ≡ 2 ^ r * 2 ^ (m - w - r) = ap (λ (y : ℕ). 2 ^ y) above ∙ pow-add 2 r (m - w - r) in
    let all : 2 ^ m ≡ 2 ^ w * (2 ^ r * 2 ^ (m - w - r)) = ap (λ (y : ℕ). 2 ^ y) order ∙ pow-add 2 w (r + (m - w - r)) ∙ ap (λ (y : ℕ). 2 ^ w * y) (pow-add 2 r (m - w - r)) in
    parts x (1 * 2 ^ (m - w - r) % 2 ^ m) (2 ^ m) (2 ^ (m - w)) value (one ∙ power) all high
    ∙ cut_core (bits_in 8 row place r) (bits_in 8 row (place + r) w) (bits_in 8 row (place + r + w) (m - w - r)) (2 ^ r) (2 ^ (m - w - r)) (2 ^ w) (bits_in-lt 8 row place r) (bits_in-lt 8 row (place + r) w) (power_some (m - w - r))
  where
    parts : (x f n s : ℕ) {x' f' n' s' : ℕ} → x ≡ x' → f ≡ f' → n ≡ n' → s ≡ s' → x * f % n / s ≡ x' * f' % n' / s'
    parts x f n s a b c d = rw (a, b, c, d) refl

-- byte k of the sixteen that are loaded from a place on
pub loaded : (row : List ℕ) (at k : ℕ) → k < 16 → get_or (chunk 0 16 (take (at + 16 - at) (drop at row))) (0 + k) 0 ≡ get_or row (at + k) 0
loaded row at k small =
    let none : 0 + k ≡ k = omega arith in
    rw none (get_or-chunk 0 16 (take (at + 16 - at) (drop at row)) k 0 small ∙ rw none (get_or-take (at + 16 - at) (drop at row) k 0 (omega arith) ∙ get_or-drop at row k 0))

pub taken_small : (n : ℕ) (xs : List ℕ) → ((k : ℕ) → get_or xs k 0 < 256) → (k : ℕ) → get_or (take n xs) k 0 < 256
taken_small zero xs h k = omega arith
taken_small (suc n) [] h k = omega arith
taken_small (suc n) (x ∷ xs) h zero = h 0
taken_small (suc n) (x ∷ xs) h (suc k) = taken_small n xs (λ j. h (suc j)) k

cond_small : (b : Bool) (x : ℕ) → x < 256 → cond b 0 x < 256
cond_small true x h = omega arith
cond_small false x h = h

pub chosen_small : (v : List ℕ) (i : ℕ) (js : List ℕ) → ((k : ℕ) → get_or v k 0 < 256) → Each1 (λ x. x < 256) (swz_l w8 16 v i js)
chosen_small v i [] h = tt
chosen_small v i (j ∷ js) h = (cond_small _ _ (h _), chosen_small v (suc i) js h)

pair_value : (b c : Bool) (x y : ℕ) {v w : ℕ} → b ≡ false → c ≡ false → x ≡ v → y ≡ w → cond b 0 x + 256 * (cond c 0 y + 256 * 0) ≡ v + 256 * (w + 256 * 0)
pair_value b c x y e f g h = rw (e, f, g, h) refl

-- two bytes that are chosen, as a number
pair : (row : List ℕ) (at p : ℕ) → ((k : ℕ) → get_or row k 0 < 256) → p ≤ 14
    → cond (leb 128 p) 0 (get_or (chunk 0 16 (take (at + 16 - at) (drop at row))) (0 + p) 0) + 256 * (cond (leb 128 (p + 1)) 0 (get_or (chunk 0 16 (take (at + 16 - at) (drop at row))) (0 + (p + 1)) 0) + 256 * 0)
    ≡ bits_in 8 row ((at + p) * 8) 16
pair row at p h near =
    let next : at + (p + 1) ≡ suc (at + p) = omega arith in
    pair_value (leb 128 p) (leb 128 (p + 1)) _ _ (lt-leb 128 p (omega arith)) (lt-leb 128 (p + 1) (omega arith)) (loaded row at p (omega arith)) (loaded row at (p + 1) (omega arith) ∙ ap (λ (k : ℕ). get_or row k 0) next)
    ∙ little_bits row 2 (at + p) h

pub eight_same : (a b c d e f g h : ℕ) {a' b' c' d' e' f' g' h' : ℕ} → a ≡ a' → b ≡ b' → c ≡ c' → d ≡ d' → e ≡ e' → f ≡ f' → g ≡ g' → h ≡ h'
    → a ∷ b ∷ c ∷ d ∷ e ∷ f ∷ g ∷ h ∷ [] ≡ a' ∷ b' ∷ c' ∷ d' ∷ e' ∷ f' ∷ g' ∷ h' ∷ []
eight_same a b c d e f g h p q r s t u v w = rw (p, q, r, s, t, u, v, w) refl

-- eight pairs of bytes, as numbers
pub halves_of : (row : List ℕ) (at b c d e f g h : ℕ) → ((k : ℕ) → get_or row k 0 < 256) → at + 16 ≤ length row → b ≤ 14 → c ≤ 14 → d ≤ 14 → e ≤ 14 → f ≤ 14 → g ≤ 14 → h ≤ 14
    → digits_l 65536 8 (number_l 256 (swz_l w8 16 (chunk 0 16 (take (at + 16 - at) (drop at row))) 0 (0 ∷ 1 ∷ b ∷ (b + 1) ∷ c ∷ (c + 1) ∷ d ∷ (d + 1) ∷ e ∷ (e + 1) ∷ f ∷ (f + 1) ∷ g ∷ (g + 1) ∷ h ∷ (h + 1) ∷ [])))
    ≡ bits_in 8 row (at * 8) 16 ∷ bits_in 8 row ((at + b) * 8) 16 ∷ bits_in 8 row ((at + c) * 8) 16 ∷ bits_in 8 row ((at + d) * 8) 16 ∷ bits_in 8 row ((at + e) * 8) 16 ∷ bits_in 8 row ((at + f) * 8) 16 ∷ bits_in 8 row ((at + g) * 8) 16 ∷ bits_in 8 row ((at + h) * 8) 16 ∷ []
halves_of row at b c d e f g h small within nb nc nd ne nf ng nh =
    let v = chunk 0 16 (take (at + 16 - at) (drop at row)) in
    let js = 0 ∷ 1 ∷ b ∷ (b + 1) ∷ c ∷ (c + 1) ∷ d ∷ (d + 1) ∷ e ∷ (e + 1) ∷ f ∷ (f + 1) ∷ g ∷ (g + 1) ∷ h ∷ (h + 1) ∷ [] in
    let bytes : (k : ℕ) → get_or v k 0 < 256 = taken_small 16 (take (at + 16 - at) (drop at row)) (taken_small (at + 16 - at) (drop at row) (λ j. rw (get_or-drop at row j 0) (small (at + j)))) in
    let each = chosen_small v 0 js bytes in
    let here : at + 0 ≡ at = omega arith in
    eight_same _ _ _ _ _ _ _ _
    (get_or_wider 256 2 65536 8 (swz_l w8 16 v 0 js) 0 refl each (omega arith) ∙ rw here at (pair row at 0 small (omega arith)))
    (get_or_wider 256 2 65536 8 (swz_l w8 16 v 0 js) 1 refl each (omega arith) ∙ pair row at b small nb)
    (get_or_wider 256 2 65536 8 (swz_l w8 16 v 0 js) 2 refl each (omega arith) ∙ pair row at c small nc)
    (get_or_wider 256 2 65536 8 (swz_l w8 16 v 0 js) 3 refl each (omega arith) ∙ pair row at d small nd)
    (get_or_wider 256 2 65536 8 (swz_l w8 16 v 0 js) 4 refl each (omega arith) ∙ pair row at e small ne)
    (get_or_wider 256 2 65536 8 (swz_l w8 16 v 0 js) 5 refl each (omega arith) ∙ pair row at f small nf)
    (get_or_wider 256 2 65536 8 (swz_l w8 16 v 0 js) 6 refl each (omega arith) ∙ pair row at g small ng)
    (get_or_wider 256 2 65536 8 (swz_l w8 16 v 0 js) 7 refl each (omega arith) ∙ pair row at h small nh)

-- the entry that begins at bit b from byte at on
entry_lane : (row : List ℕ) (at w b : ℕ) → 1 ≤ w → w ≤ 9 → bits_in 8 row ((at + b / 8) * 8) 16 * (1 * 2 ^ (16 - w - b % 8) % 65536) % 65536 / 2 ^ (16 - w) ≡ bits_in 8 row (at * 8 + b) w
entry_lane row at w b some narrow =
    let place : (at + b / 8) * 8 + b % 8 ≡ at * 8 + b = omega arith in
    lane_cut 16 row ((at + b / 8) * 8) w (b % 8) (bits_in 8 row ((at + b / 8) * 8) 16) refl some (omega arith) ∙ ap (λ (k : ℕ). bits_in 8 row k w) place

first_lane : (row : List ℕ) (at w : ℕ) → 1 ≤ w → w ≤ 9 → bits_in 8 row (at * 8) 16 * (1 * 2 ^ (16 - w) % 65536) % 65536 / 2 ^ (16 - w) ≡ bits_in 8 row (at * 8 + 0 * w) w
first_lane row at w some narrow =
    let none : 16 - w - 0 ≡ 16 - w = omega arith in
    let place : at * 8 + 0 ≡ at * 8 + 0 * w = omega arith in
    rw none at (lane_cut 16 row (at * 8) w 0 (bits_in 8 row (at * 8) 16) refl some (omega arith)) ∙ ap (λ (k : ℕ). bits_in 8 row k w) place

pub eight_of : (row : List ℕ) (at w : ℕ) → 1 ≤ w → w ≤ 9
    → (bits_in 8 row (at * 8) 16 * (1 * 2 ^ (16 - w) % 65536) % 65536 / 2 ^ (16 - w)) ∷ (bits_in 8 row ((at + 1 * w / 8) * 8) 16 * (1 * 2 ^ (16 - w - 1 * w % 8) % 65536) % 65536 / 2 ^ (16 - w)) ∷ (bits_in 8 row ((at + 2 * w / 8) * 8) 16 * (1 * 2 ^ (16 - w - 2 * w % 8) % 65536) % 65536 / 2 ^ (16 - w)) ∷ (bits_in 8 row ((at + 3 * w / 8) * 8) 16 * (1 * 2 ^ (16 - w - 3 * w % 8) % 65536) % 65536 / 2 ^ (16 - w)) ∷ (bits_in 8 row ((at + 4 * w / 8) * 8) 16 * (1 * 2 ^ (16 - w - 4 * w % 8) % 65536) % 65536 / 2 ^ (16 - w)) ∷ (bits_in 8 row ((at + 5 * w / 8) * 8) 16 * (1 * 2 ^ (16 - w - 5 * w % 8) % 65536) % 65536 / 2 ^ (16 - w)) ∷ (bits_in 8 row ((at + 6 * w / 8) * 8) 16 * (1 * 2 ^ (16 - w - 6 * w % 8) % 65536) % 65536 / 2 ^ (16 - w)) ∷ (bits_in 8 row ((at + 7 * w / 8) * 8) 16 * (1 * 2 ^ (16 - w - 7 * w % 8) % 65536) % 65536 / 2 ^ (16 - w)) ∷ []
    ≡ bits_in 8 row (at * 8 + 0 * w) w ∷ bits_in 8 row (at * 8 + 1 * w) w ∷ bits_in 8 row (at * 8 + 2 * w) w ∷ bits_in 8 row (at * 8 + 3 * w) w ∷ bits_in 8 row (at * 8 + 4 * w) w ∷ bits_in 8 row (at * 8 + 5 * w) w ∷ bits_in 8 row (at * 8 + 6 * w) w ∷ bits_in 8 row (at * 8 + 7 * w) w ∷ []
eight_of row at w some narrow =
    eight_same _ _ _ _ _ _ _ _ (first_lane row at w some narrow) (entry_lane row at w (1 * w) some narrow) (entry_lane row at w (2 * w) some narrow) (entry_lane row at w (3 * w) some narrow) (entry_lane row at w (4 * w) some narrow) (entry_lane row at w (5 * w) some narrow) (entry_lane row at w (6 * w) some narrow) (entry_lane row at w (7 * w) some narrow)

abbrev plus : ℕ → ℕ → ℕ
plus x y = (x + y) % 65536

-- sums of eight small numbers and those before them
pub running_of : (a b c d e f g h gap : ℕ) → a < 512 → b < 512 → c < 512 → d < 512 → e < 512 → f < 512 → g < 512 → h < 512 → gap ≤ 1
    → plus (plus (plus (plus a 0) 0) 0) (1 * gap % 65536) ∷ plus (plus (plus (plus b a) 0) 0) (2 * gap % 65536) ∷ plus (plus (plus (plus c b) (plus a 0)) 0) (3 * gap % 65536) ∷ plus (plus (plus (plus d c) (plus b a)) 0) (4 * gap % 65536) ∷ plus (plus (plus (plus e d) (plus c b)) (plus (plus a 0) 0)) (5 * gap % 65536) ∷ plus (plus (plus (plus f e) (plus d c)) (plus (plus b a) 0)) (6 * gap % 65536) ∷ plus (plus (plus (plus g f) (plus e d)) (plus (plus c b) (plus a 0))) (7 * gap % 65536) ∷ plus (plus (plus (plus h g) (plus f e)) (plus (plus d c) (plus b a))) (8 * gap % 65536) ∷ []
    ≡ values_from gap gap (a ∷ b ∷ c ∷ d ∷ e ∷ f ∷ g ∷ h ∷ [])
running_of a b c d e f g h gap pa pb pc pd pe pf pg ph one = eight_same _ _ _ _ _ _ _ _ (omega arith) (omega arith) (omega arith) (omega arith) (omega arith) (omega arith) (omega arith) (omega arith)

pub eight_list : (xs : List ℕ) → length xs ≡ 8 → xs ≡ get_or xs 0 0 ∷ get_or xs 1 0 ∷ get_or xs 2 0 ∷ get_or xs 3 0 ∷ get_or xs 4 0 ∷ get_or xs 5 0 ∷ get_or xs 6 0 ∷ get_or xs 7 0 ∷ []
eight_list [] many = absurd (omega arith)
eight_list (a ∷ []) many = absurd (omega arith)
eight_list (a ∷ b ∷ []) many = absurd (omega arith)
eight_list (a ∷ b ∷ c ∷ []) many = absurd (omega arith)
eight_list (a ∷ b ∷ c ∷ d ∷ []) many = absurd (omega arith)
eight_list (a ∷ b ∷ c ∷ d ∷ e ∷ []) many = absurd (omega arith)
eight_list (a ∷ b ∷ c ∷ d ∷ e ∷ f ∷ []) many = absurd (omega arith)
eight_list (a ∷ b ∷ c ∷ d ∷ e ∷ f ∷ g ∷ []) many = absurd (omega arith)
eight_list (a ∷ b ∷ c ∷ d ∷ e ∷ f ∷ g ∷ h ∷ []) many = refl
eight_list (a ∷ b ∷ c ∷ d ∷ e ∷ f ∷ g ∷ h ∷ (i ∷ is)) many = absurd (omega arith)

entry_small : (row : List ℕ) (place w : ℕ) → w ≤ 9 → bits_in 8 row place w < 512
entry_small row place w narrow =
    let small = bits_in-lt 8 row place w in
    let wide = pow_mono {i = w} {j = 9} narrow in
    omega arith

pub eight_small : (row : List ℕ) (at w : ℕ) → w ≤ 9 → (k : ℕ) → k < 8 → get_or (bits_in 8 row (at * 8 + 0 * w) w ∷ bits_in 8 row (at * 8 + 1 * w) w ∷ bits_in 8 row (at * 8 + 2 * w) w ∷ bits_in 8 row (at * 8 + 3 * w) w ∷ bits_in 8 row (at * 8 + 4 * w) w ∷ bits_in 8 row (at * 8 + 5 * w) w ∷ bits_in 8 row (at * 8 + 6 * w) w ∷ bits_in 8 row (at * 8 + 7 * w) w ∷ []) k 0 < 512
eight_small row at w narrow zero h = entry_small row (at * 8 + 0 * w) w narrow
eight_small row at w narrow (suc zero) h = entry_small row (at * 8 + 1 * w) w narrow
eight_small row at w narrow (suc (suc zero)) h = entry_small row (at * 8 + 2 * w) w narrow
eight_small row at w narrow (suc (suc (suc zero))) h = entry_small row (at * 8 + 3 * w) w narrow
eight_small row at w narrow (suc (suc (suc (suc zero)))) h = entry_small row (at * 8 + 4 * w) w narrow
eight_small row at w narrow (suc (suc (suc (suc (suc zero))))) h = entry_small row (at * 8 + 5 * w) w narrow
eight_small row at w narrow (suc (suc (suc (suc (suc (suc zero)))))) h = entry_small row (at * 8 + 6 * w) w narrow
eight_small row at w narrow (suc (suc (suc (suc (suc (suc (suc zero))))))) h = entry_small row (at * 8 + 7 * w) w narrow
eight_small row at w narrow (suc (suc (suc (suc (suc (suc (suc (suc k)))))))) h = absurd (omega arith)

pub cons_same : {x y : ℕ} {xs ys : List ℕ} → x ≡ y → xs ≡ ys → x ∷ xs ≡ y ∷ ys
cons_same e f = rw (e, f) refl

pub wrapped_same : (gap n m : ℕ) (es : List ℕ) → n % 4294967296 ≡ m % 4294967296 → wrapped_from gap n es ≡ wrapped_from gap m es
wrapped_same gap n m [] h = refl
wrapped_same gap n m (e ∷ es) h = cons_same (omega arith) (wrapped_same gap (n + e + gap) (m + e + gap) es (omega arith))

-- eight values after one, modulo 2 ^ 32
abbrev pub after : ℕ → List ℕ → List ℕ
after b sums = map (λ s. (b + s) % 4294967296) sums

eight_wrapped : (b gap e0 e1 e2 e3 e4 e5 e6 e7 : ℕ) (rest : List ℕ)
    → after b (values_from gap gap (e0 ∷ e1 ∷ e2 ∷ e3 ∷ e4 ∷ e5 ∷ e6 ∷ e7 ∷ [])) ++ wrapped_from gap (get_or (after b (values_from gap gap (e0 ∷ e1 ∷ e2 ∷ e3 ∷ e4 ∷ e5 ∷ e6 ∷ e7 ∷ []))) 7 0 + gap) rest
    ≡ wrapped_from gap (b + gap) (e0 ∷ e1 ∷ e2 ∷ e3 ∷ e4 ∷ e5 ∷ e6 ∷ e7 ∷ rest)
eight_wrapped b gap e0 e1 e2 e3 e4 e5 e6 e7 rest =
    cons_same (omega arith) (cons_same (omega arith) (cons_same (omega arith) (cons_same (omega arith) (cons_same (omega arith) (cons_same (omega arith) (cons_same (omega arith) (cons_same (omega arith) (wrapped_same gap _ _ rest (omega arith)))))))))

-- What a loop knows that has k values in its output, of which `before` holds the last one eight times.
pub record IsSummingLanes (gap least k : ℕ) (es out before : List ℕ) : Type 0 where
  pub lanes : before ≡ replicate 8 (get_or before 0 0)
  pub values : take k out ++ wrapped_from gap (get_or before 0 0 + gap) (drop k es) ≡ wrapped_from gap least es

pub lanes-first : (gap least : ℕ) (es out : List ℕ) → gap ≤ 1 → least < 2 ^ 32 + gap → IsSummingLanes gap least 0 es out (replicate 8 ((4294967296 + least - gap) % 4294967296))
lanes-first gap least es out g l = record {
  lanes = refl;
  values = wrapped_same gap ((4294967296 + least - gap) % 4294967296 + gap) least es (omega arith);
}

pub lanes-more : (gap least k b e0 e1 e2 e3 e4 e5 e6 e7 : ℕ) (es out new : List ℕ) → take k out ++ wrapped_from gap (b + gap) (drop k es) ≡ wrapped_from gap least es → drop k es ≡ e0 ∷ e1 ∷ e2 ∷ e3 ∷ e4 ∷ e5 ∷ e6 ∷ e7 ∷ drop (k + 8) es
    → take (k + 8) new ≡ take k out ++ after b (values_from gap gap (e0 ∷ e1 ∷ e2 ∷ e3 ∷ e4 ∷ e5 ∷ e6 ∷ e7 ∷ []))
    → IsSummingLanes gap least (k + 8) es new (replicate 8 (get_or (after b (values_from gap gap (e0 ∷ e1 ∷ e2 ∷ e3 ∷ e4 ∷ e5 ∷ e6 ∷ e7 ∷ []))) 7 0))
lanes-more gap least k b e0 e1 e2 e3 e4 e5 e6 e7 es out new h here written =
    let vs = after b (values_from gap gap (e0 ∷ e1 ∷ e2 ∷ e3 ∷ e4 ∷ e5 ∷ e6 ∷ e7 ∷ [])) in
    let so_far = rw here at h in
    record {
      lanes = refl;
      values = rw written (append_assoc (take k out) vs (wrapped_from gap (get_or vs 7 0 + gap) (drop (k + 8) es))
          ∙ ap (λ (xs : List ℕ). take k out ++ xs) (eight_wrapped b gap e0 e1 e2 e3 e4 e5 e6 e7 (drop (k + 8) es)) ∙ so_far);
    }

-- eight entries of a list
pub drop_eight : (es : List ℕ) (k : ℕ) → k + 8 ≤ length es → drop k es ≡ get_or es k 0 ∷ get_or es (k + 1) 0 ∷ get_or es (k + 2) 0 ∷ get_or es (k + 3) 0 ∷ get_or es (k + 4) 0 ∷ get_or es (k + 5) 0 ∷ get_or es (k + 6) 0 ∷ get_or es (k + 7) 0 ∷ drop (k + 8) es
drop_eight es k within =
    let d0 = drop_more es k 0 (omega arith) in
    let d1 = drop_more es (k + 1) 0 (omega arith) in
    let d2 = drop_more es (k + 2) 0 (omega arith) in
    let d3 = drop_more es (k + 3) 0 (omega arith) in
    let d4 = drop_more es (k + 4) 0 (omega arith) in
    let d5 = drop_more es (k + 5) 0 (omega arith) in
    let d6 = drop_more es (k + 6) 0 (omega arith) in
    let d7 = drop_more es (k + 7) 0 (omega arith) in
    let p1 : k + 1 + 1 ≡ k + 2 = omega arith in
    let p2 : k + 2 + 1 ≡ k + 3 = omega arith in
    let p3 : k + 3 + 1 ≡ k + 4 = omega arith in
    let p4 : k + 4 + 1 ≡ k + 5 = omega arith in
    let p5 : k + 5 + 1 ≡ k + 6 = omega arith in
    let p6 : k + 6 + 1 ≡ k + 7 = omega arith in
    let p7 : k + 7 + 1 ≡ k + 8 = omega arith in
    d0 ∙ ap (λ (xs : List ℕ). get_or es k 0 ∷ xs) (rw p1 at d1) ∙ ap (λ (xs : List ℕ). get_or es k 0 ∷ get_or es (k + 1) 0 ∷ xs) (rw p2 at d2) ∙ ap (λ (xs : List ℕ). get_or es k 0 ∷ get_or es (k + 1) 0 ∷ get_or es (k + 2) 0 ∷ xs) (rw p3 at d3) ∙ ap (λ (xs : List ℕ). get_or es k 0 ∷ get_or es (k + 1) 0 ∷ get_or es (k + 2) 0 ∷ get_or es (k + 3) 0 ∷ xs) (rw p4 at d4) ∙ ap (λ (xs : List ℕ). get_or es k 0 ∷ get_or es (k + 1) 0 ∷ get_or es (k + 2) 0 ∷ get_or es (k + 3) 0 ∷ get_or es (k + 4) 0 ∷ xs) (rw p5 at d5) ∙ ap (λ (xs : List ℕ). get_or es k 0 ∷ get_or es (k + 1) 0 ∷ get_or es (k + 2) 0 ∷ get_or es (k + 3) 0 ∷ get_or es (k + 4) 0 ∷ get_or es (k + 5) 0 ∷ xs) (rw p6 at d6) ∙ ap (λ (xs : List ℕ). get_or es k 0 ∷ get_or es (k + 1) 0 ∷ get_or es (k + 2) 0 ∷ get_or es (k + 3) 0 ∷ get_or es (k + 4) 0 ∷ get_or es (k + 5) 0 ∷ get_or es (k + 6) 0 ∷ xs) (rw p7 at d7)

sum_small : (m : ℕ) (es : List ℕ) → ((k : ℕ) → k < length es → get_or es k 0 ≤ m) → sum es ≤ length es * m
sum_small m [] h = omega arith
sum_small m (e ∷ es) h =
    let ih = sum_small m es (λ k small. h (suc k) (omega arith)) in
    let first = h 0 (omega arith) in
    rw (sum_by-cons (λ (x : ℕ). x) e es) (omega (arith, suc-mul (length es) m))

-- whether values that are summed up modulo 2 ^ 32 fit, by the last of them
fits_by_last : (least rest : ℕ) → rest < 4294967296 → nat_le least ((least + rest) % 4294967296) ≡ nat_lt (least + rest) 4294967296
fits_by_last least rest small =
    ⊎_elim
    (λ (below : least + rest < 4294967296). rw (lt-ltb (least + rest) 4294967296 below) (le-leb least ((least + rest) % 4294967296) (omega arith)))
    (λ (above : 4294967296 ≤ least + rest). rw (le-ltb (least + rest) 4294967296 above) (lt-leb least ((least + rest) % 4294967296) (omega arith)))
    (cases_lt (least + rest) 4294967296)

lanes-all : (gap least k next : ℕ) (es out : List ℕ) → take k out ++ wrapped_from gap next (drop k es) ≡ wrapped_from gap least es → k ≡ 128 → length es ≡ 128 → length out ≡ 128 → out ≡ wrapped_from gap least es
lanes-all gap least k next es out h done many room =
    let values = rw (drop_all k es (omega arith), take_all k out (omega arith), append-nil out) at h in
    values

pub lanes-fits : (gap least k next : ℕ) (es out : List ℕ) → take k out ++ wrapped_from gap next (drop k es) ≡ wrapped_from gap least es → k ≡ 128 → length es ≡ 128 → length out ≡ 128 → gap ≤ 1 → ((k : ℕ) → k < length es → get_or es k 0 ≤ 33554431)
    → nat_le least (get_or out 127 0) ≡ fit_u32 (values_from gap least es)
lanes-fits gap least k next es out h done many room g entries =
    let all = lanes-all gap least k next es out h done many room in
    let total = rw many at (sum_small 33554431 es entries) in
    let last = get_or-map (λ v. v % 4294967296) (values_from gap least es) 127 0 0 (omega (arith, length-values_from gap least es)) in
    let place : least + sum es + 127 * gap ≡ least + (sum es + 127 * gap) = omega arith in
    let value : get_or out 127 0 ≡ (least + (sum es + 127 * gap)) % 4294967296 = ap (λ (xs : List ℕ). get_or xs 127 0) all ∙ last ∙ ap (λ (x : ℕ). x % 4294967296) (last_value gap least es many ∙ place) in
    let bound : sum es + 127 * gap < 4294967296 = omega (arith, total) in
    rw value (fits_by_last least (sum es + 127 * gap) bound ∙ sym (last_fits gap least es many ∙ ap (λ (x : ℕ). nat_lt x 4294967296) place))

pub lanes-values : (gap least k next : ℕ) (fits : Bool) (es out : List ℕ) → take k out ++ wrapped_from gap next (drop k es) ≡ wrapped_from gap least es → k ≡ 128 → length es ≡ 128 → length out ≡ 128 → fits ≡ fit_u32 (values_from gap least es)
    → OnTrue fits (out ≡ values_from gap least es)
lanes-values gap least k next fits es out h done many room e =
    on_true fits (λ all. lanes-all gap least k next es out h done many room ∙ fit_wrapped (values_from gap least es) (sym e ∙ all))

pub entries_small : (w : ℕ) (bytes : List ℕ) → w ≤ 25 → (k : ℕ) → k < length (unpacked w bytes) → get_or (unpacked w bytes) k 0 ≤ 33554431
entries_small w bytes narrow k within =
    let below = bits_in-lt 8 bytes (k * w) w in
    let wide = pow_mono {i = w} {j = 25} narrow in
    rw (get_or-unpacked w k bytes (omega (arith, length-unpacked w bytes))) (omega arith)

entry_at : (w g j : ℕ) (bytes : List ℕ) → g < 16 → j < 8 → get_or (unpacked w bytes) (8 * g + j) 0 ≡ bits_in 8 bytes (g * w * 8 + j * w) w
entry_at w g j bytes few near =
    let place : (8 * g + j) * w ≡ g * w * 8 + j * w = omega arith in
    get_or-unpacked w (8 * g + j) bytes (omega arith) ∙ ap (λ (k : ℕ). bits_in 8 bytes k w) place

-- the eight entries of a group
pub block_eight : (w g : ℕ) (bytes : List ℕ) → g < 16 → drop (8 * g) (unpacked w bytes) ≡ bits_in 8 bytes (g * w * 8 + 0 * w) w ∷ bits_in 8 bytes (g * w * 8 + 1 * w) w ∷ bits_in 8 bytes (g * w * 8 + 2 * w) w ∷ bits_in 8 bytes (g * w * 8 + 3 * w) w ∷ bits_in 8 bytes (g * w * 8 + 4 * w) w ∷ bits_in 8 bytes (g * w * 8 + 5 * w) w ∷ bits_in 8 bytes (g * w * 8 + 6 * w) w ∷ bits_in 8 bytes (g * w * 8 + 7 * w) w ∷ drop (8 * g + 8) (unpacked w bytes)
block_eight w g bytes few =
    let none : 8 * g ≡ 8 * g + 0 = omega arith in
    drop_eight (unpacked w bytes) (8 * g) (omega (arith, length-unpacked w bytes))
    ∙ cons_same (ap (λ (k : ℕ). get_or (unpacked w bytes) k 0) none ∙ entry_at w g 0 bytes few (omega arith)) (cons_same (entry_at w g 1 bytes few (omega arith)) (cons_same (entry_at w g 2 bytes few (omega arith)) (cons_same (entry_at w g 3 bytes few (omega arith)) (cons_same (entry_at w g 4 bytes few (omega arith)) (cons_same (entry_at w g 5 bytes few (omega arith)) (cons_same (entry_at w g 6 bytes few (omega arith)) (cons_same (entry_at w g 7 bytes few (omega arith)) refl)))))))
