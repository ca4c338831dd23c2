-- Laws of windows: 64 bits of bytes as one number.
use Rattle.std.proofs.Common.{◌≡◌, ℕ, zero, suc, ◌+◌, ◌-◌, ◌*◌, ◌/◌, ◌%◌, ◌^◌, ◌<◌, ◌≤◌, List, ◌++◌, length, take, drop, get_or, replicate, refl, sym, ap, ◌∙◌, arith, ⊎_elim}
use Rattle.std.proofs.Math.Nat.{pow-suc}
use Rattle.std.proofs.lemmas.Bool.{cases_lt}
use Rattle.std.proofs.lemmas.Nat.{div-mul-add, mod-mul-add, shl_whole}
use Rattle.std.proofs.lemmas.List.{take-append-drop, length-take-le, get_or-drop, get_or_append_left, get_or-append_right, get_or_past}
use Rattle.std.specs.Int.{bit_at}
use Rattle.byteorder.specs.Endian.{little_from}
use Rattle.ii_codes.specs.Packed.{bit_in, bits_in, unpacked}
use Rattle.ii_codes.proofs.PackedLemmas.{bits_in-zero, bits_in-suc, bits_in-lt, same_as_bits_in, bit_in_at}
use Rattle.ii_codes.proofs.PackedLaws.{bits_in_same, unpacked-append}

split_none : (x y p : ℕ) → x ≡ 0 → p ≡ 1 → y ≡ x + p * y
split_none x y p e f = rw (e, f) (omega arith)

split_step : (b x y p q : ℕ) → q ≡ p * 2 → b + 2 * (x + p * y) ≡ b + 2 * x + q * y
split_step b x y p q e = rw e (omega arith)

-- the first a bits, and the b bits after them
pub bits_in-split : (w : ℕ) (row : List ℕ) (place a b : ℕ) → bits_in w row place (a + b) ≡ bits_in w row place a + 2 ^ a * bits_in w row (place + a) b
bits_in-split w row place zero b =
    let here : place + 0 ≡ place = omega arith in
    let all : 0 + b ≡ b = omega arith in
    rw (here, all) (split_none (bits_in w row place 0) (bits_in w row place b) (2 ^ 0) (bits_in-zero w row place) refl)
bits_in-split w row place (suc a) b =
    let ih = bits_in-split w row (place + 1) a b in
    let next : place + suc a ≡ place + 1 + a = omega arith in
    let sum : suc a + b ≡ suc (a + b) = omega arith in
    rw (sum, bits_in-suc w row place (a + b), bits_in-suc w row place a, next, ih)
    (split_step (bit_in w row place) (bits_in w row (place + 1) a) (bits_in w row (place + 1 + a) b) (2 ^ a) (2 ^ suc a) (pow-suc 2 a))

-- a byte is its bits
pub byte_bits : (row : List ℕ) (i : ℕ) → get_or row i 0 < 256 → bits_in 8 row (i * 8) 8 ≡ get_or row i 0
byte_bits row i h = sym (same_as_bits_in 8 row (i * 8) 8 (get_or row i 0) h (λ j small. sym (bit_in_at 8 i j row small)))

-- the number that bytes make is that of their bits
pub little_bits : (row : List ℕ) (n i : ℕ) → ((k : ℕ) → get_or row k 0 < 256) → little_from i n row ≡ bits_in 8 row (i * 8) (n * 8)
little_bits row zero i h = sym (bits_in-zero 8 row (i * 8))
little_bits row (suc n) i h =
    let ih = little_bits row n (suc i) h in
    let byte = byte_bits row i (h i) in
    let sum : suc n * 8 ≡ 8 + n * 8 = omega arith in
    let next : suc i * 8 ≡ i * 8 + 8 = omega arith in
    rw (sum, bits_in-split 8 row (i * 8) 8 (n * 8), byte, ih, next) refl

-- w bits of a number of n bits, from bit s on
pub window_cut : (v : ℕ) (row : List ℕ) (place n s w x : ℕ) → x ≡ bits_in v row place n → s + w ≤ n → x / 2 ^ s % 2 ^ w ≡ bits_in v row (place + s) w
window_cut v row place n s w x e within =
    let whole : n ≡ s + (w + (n - s - w)) = omega arith in
    let low = bits_in-split v row place s (w + (n - s - w)) in
    let mid = bits_in-split v row (place + s) w (n - s - w) in
    let parts = rw (← whole) at low in
    let value : x ≡ bits_in v row (place + s) (w + (n - s - w)) * 2 ^ s + bits_in v row place s = rw (e, parts) (omega arith) in
    let above : bits_in v row (place + s) (w + (n - s - w)) ≡ bits_in v row (place + s + w) (n - s - w) * 2 ^ w + bits_in v row (place + s) w = rw mid (omega arith) in
    rw (value, div-mul-add (bits_in v row (place + s) (w + (n - s - w))) (2 ^ s) (bits_in v row place s) (bits_in-lt v row place s), above) (mod-mul-add (bits_in v row (place + s + w) (n - s - w)) (2 ^ w) (bits_in v row (place + s) w) (bits_in-lt v row (place + s) w))

-- what is left of it from bit s on
pub window_rest : (v : ℕ) (row : List ℕ) (place n s x : ℕ) → x ≡ bits_in v row place n → s ≤ n → x / 2 ^ s ≡ bits_in v row (place + s) (n - s)
window_rest v row place n s x e within =
    let whole : n ≡ s + (n - s) = omega arith in
    let low = bits_in-split v row place s (n - s) in
    let parts = rw (← whole) at low in
    let value : x ≡ bits_in v row (place + s) (n - s) * 2 ^ s + bits_in v row place s = rw (e, parts) (omega arith) in
    rw value (div-mul-add (bits_in v row (place + s) (n - s)) (2 ^ s) (bits_in v row place s) (bits_in-lt v row place s))

-- bits from byte s on
pub bits_in-drop : (row : List ℕ) (s place n : ℕ) → bits_in 8 (drop s row) place n ≡ bits_in 8 row (s * 8 + place) n
bits_in-drop row s place n =
    bits_in_same 8 8 (drop s row) row place (s * 8 + place) n
    (λ i small.
    let byte : (s * 8 + place + i) / 8 ≡ s + (place + i) / 8 = omega arith in
    let bit : (s * 8 + place + i) % 8 ≡ (place + i) % 8 = omega arith in
    rw (byte, bit) (ap (λ (x : ℕ). bit_at x ((place + i) % 8)) (get_or-drop s row ((place + i) / 8) 0)))

no_bytes : (m i : ℕ) → get_or {A = ℕ} (replicate m 0) i 0 ≡ 0
no_bytes zero i = refl
no_bytes (suc m) zero = refl
no_bytes (suc m) (suc i) = no_bytes m i

padded_byte : (xs : List ℕ) (m i : ℕ) → get_or (xs ++ replicate m 0) i 0 ≡ get_or xs i 0
padded_byte xs m i =
    ⊎_elim
    (λ below. get_or_append_left xs (replicate m 0) 0 i below)
    (λ above. get_or-append_right xs (replicate m 0) (length xs) i 0 refl above ∙ no_bytes m (i - length xs) ∙ sym (get_or_past xs i 0 above))
    (cases_lt i (length xs))

-- zero bytes at the end are no bits
pub bits_in-padded : (xs : List ℕ) (m place n : ℕ) → bits_in 8 (xs ++ replicate m 0) place n ≡ bits_in 8 xs place n
bits_in-padded xs m place n =
    bits_in_same 8 8 (xs ++ replicate m 0) xs place place n (λ i small. ap (λ (x : ℕ). bit_at x ((place + i) % 8)) (padded_byte xs m ((place + i) / 8)))

-- the number that eight bytes make
pub window_bits : (row : List ℕ) (x : ℕ) → x ≡ little_from 0 8 row → ((k : ℕ) → get_or row k 0 < 256) → x ≡ bits_in 8 row 0 64
window_bits row x e h = e ∙ little_bits row 8 0 h

-- w bits of a window from bit place % 8 on, as a reader names its parts
pub read_window : (row rest : List ℕ) (place w x : ℕ) → rest ≡ drop (place / 8) row → x ≡ bits_in 8 rest 0 64 → w ≤ 56 → x / 2 ^ (place % 8) % (1 * 2 ^ w % 2 ^ 64) ≡ bits_in 8 row place w
read_window row rest place w x shape e narrow =
    let one : 1 * 2 ^ w % 2 ^ 64 ≡ 1 * 2 ^ w = shl_whole 1 1 w 64 (omega arith) (omega arith) in
    let power : 1 * 2 ^ w ≡ 2 ^ w = omega arith in
    let bit : 0 + place % 8 ≡ place % 8 = omega arith in
    let there : place / 8 * 8 + place % 8 ≡ place = omega arith in
    let cut = rw bit at (window_cut 8 rest 0 64 (place % 8) w x e (omega arith)) in
    let moved = rw there at (bits_in-drop row (place / 8) (place % 8) w) in
    rw (one, power) (cut ∙ ap (λ (xs : List ℕ). bits_in 8 xs (place % 8) w) shape ∙ moved)

-- entry i of group g of entries of w bits
pub group_entry : (row : List ℕ) (g i w b x : ℕ) → b ≡ i * w → x ≡ bits_in 8 (drop (g * w + b / 8) row) 0 64 → w ≤ 32 → x / 2 ^ (b % 8) % (1 * 2 ^ w % 2 ^ 64) ≡ bits_in 8 row ((8 * g + i) * w) w
group_entry row g i w b x here e narrow =
    let place : (8 * g + i) * w ≡ (g * w + b / 8) * 8 + b % 8 = omega arith in
    let one : 1 * 2 ^ w % 2 ^ 64 ≡ 1 * 2 ^ w = shl_whole 1 1 w 64 (omega arith) (omega arith) in
    let power : 1 * 2 ^ w ≡ 2 ^ w = omega arith in
    let bit : 0 + b % 8 ≡ b % 8 = omega arith in
    let cut = rw bit at (window_cut 8 (drop (g * w + b / 8) row) 0 64 (b % 8) w x e (omega arith)) in
    rw (one, power, place) (cut ∙ bits_in-drop row (g * w + b / 8) (b % 8) w)

-- a block and zero bytes after it
pub unpacked-padded : (w size m : ℕ) (bytes block out : List ℕ) → size ≡ 16 * w → 16 * w ≤ length bytes → block ≡ take size bytes ++ replicate m 0 → out ≡ unpacked w block → out ≡ unpacked w bytes
unpacked-padded w size m bytes block out s enough shape e =
    let long = length-take-le size bytes (omega arith) in
    let front = unpacked-append w (take size bytes) (replicate m 0) (long ∙ s) in
    let whole = rw (take-append-drop size bytes) at (unpacked-append w (take size bytes) (drop size bytes) (long ∙ s)) in
    e ∙ ap (unpacked w) shape ∙ front ∙ sym whole
