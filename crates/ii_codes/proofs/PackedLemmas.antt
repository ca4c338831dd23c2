-- Laws of lists of entries.
use Rattle.std.proofs.Common.{◌≡◌, ℕ, zero, suc, ◌+◌, ◌*◌, ◌/◌, ◌%◌, ◌^◌, ◌<◌, ◌≤◌, List, [], ◌∷◌, ◌++◌, length, take, get_or, set, slice_index, refl, sym, ap, ◌∙◌, arith, add-one}
use Rattle.std.proofs.Math.Nat.{pow-suc, suc-mul, mul-le-mul_right}
use Rattle.std.proofs.Math.Pow.{pow_mono}
use Rattle.std.proofs.lemmas.Nat.{mod_below, div_below, div-add-mod', div-mul-add, mod-mul-add, shl_whole}
use Rattle.std.proofs.lemmas.Nat.Bits.{bit_at_lowest, bit_at-suc, bit_at-lt, same_from_bits_below}
use Rattle.std.proofs.lemmas.List.{same_lists, get_or_default, take_more_set, take_all, map-append}
use Rattle.std.proofs.lemmas.List.FromFn.{length-map-range_with_len, get_or-map-range_with_len, map-range_with_len_more}
use Rattle.std.specs.Int.{bit_at}
use Rattle.ii_codes.specs.Blocks.{raised}
use Rattle.ii_codes.specs.Packed.{bit_in, bits_in, entries_in, unpacked, packed}

pub bits_in-zero : (w : ℕ) (row : List ℕ) (place : ℕ) → bits_in w row place 0 ≡ 0
unfolding bits_in
bits_in-zero w row place = refl

pub bits_in-suc : (w : ℕ) (row : List ℕ) (place n : ℕ) → bits_in w row place (suc n) ≡ bit_in w row place + 2 * bits_in w row (place + 1) n
unfolding bits_in
bits_in-suc w row place n = refl

-- n bits make a number below 2 ^ n
pub bits_in-lt : (w : ℕ) (row : List ℕ) (place n : ℕ) → bits_in w row place n < 2 ^ n
bits_in-lt w row place zero = rw bits_in-zero (omega arith)
bits_in-lt w row place (suc n) =
    let others = bits_in-lt w row (place + 1) n in
    let bit = bit_at-lt (slice_index row (place / w)) (place % w) in
    rw (bits_in-suc, pow-suc) (omega arith)

-- bit i of that number is bit i from the place on
pub bit_at-bits_in : (w : ℕ) (row : List ℕ) (place n i : ℕ) → i < n → bit_at (bits_in w row place n) i ≡ bit_in w row (place + i)
bit_at-bits_in w row place zero i h = absurd (omega arith)
bit_at-bits_in w row place (suc n) zero h =
    let bit = bit_at-lt (slice_index row (place / w)) (place % w) in
    let low : (bit_in w row place + 2 * bits_in w row (place + 1) n) % 2 ≡ bit_in w row place = omega arith in
    let here : place + 0 ≡ place = omega arith in
    rw (bits_in-suc, here) (bit_at_lowest (bit_in w row place + 2 * bits_in w row (place + 1) n) ∙ low)
bit_at-bits_in w row place (suc n) (suc i) h =
    let bit = bit_at-lt (slice_index row (place / w)) (place % w) in
    let high : (bit_in w row place + 2 * bits_in w row (place + 1) n) / 2 ≡ bits_in w row (place + 1) n = omega arith in
    let there : place + suc i ≡ place + 1 + i = omega arith in
    rw (bits_in-suc, there) (bit_at-suc (bit_in w row place + 2 * bits_in w row (place + 1) n) i ∙ ap (λ (x : ℕ). bit_at x i) high ∙ bit_at-bits_in w row (place + 1) n i (omega arith))

push_step : (b x r r' q n : ℕ) → r' ≡ r + x * q → n ≡ q * 2 → b + 2 * r' ≡ b + 2 * r + x * n
push_step b x r r' q n e f = rw (e, f) (omega arith)

push_first : (b c r : ℕ) → r ≡ 0 → b ≡ c → b + 2 * r ≡ 0 + c * 2 ^ 0
push_first b c r e f = omega arith

-- one bit more
pub bits_in-push : (w : ℕ) (row : List ℕ) (place n : ℕ) → bits_in w row place (n + 1) ≡ bits_in w row place n + bit_in w row (place + n) * 2 ^ n
bits_in-push w row place zero =
    let here : place + 0 ≡ place = omega arith in
    rw (add-one, bits_in-suc w row place 0, bits_in-zero w row place)
    (push_first (bit_in w row place) (bit_in w row (place + 0)) (bits_in w row (place + 1) 0) (bits_in-zero w row (place + 1)) (sym (ap (bit_in w row) here)))
bits_in-push w row place (suc n) =
    let ih = bits_in-push w row (place + 1) n in
    let there : place + suc n ≡ place + 1 + n = omega arith in
    let one : suc n + 1 ≡ suc (n + 1) = omega arith in
    rw (one, bits_in-suc w row place (n + 1), bits_in-suc w row place n, there)
    (push_step (bit_in w row place) (bit_in w row (place + 1 + n)) (bits_in w row (place + 1) n) (bits_in w row (place + 1) (n + 1)) (2 ^ n) (2 ^ suc n) ih (pow-suc 2 n))

-- a number below 2 ^ n with these bits
pub same_as_bits_in : (w : ℕ) (row : List ℕ) (place n x : ℕ) → x < 2 ^ n → ((i : ℕ) → i < n → bit_at x i ≡ bit_in w row (place + i)) → x ≡ bits_in w row place n
same_as_bits_in w row place n x fits bits =
    same_from_bits_below n x (bits_in w row place n) fits (bits_in-lt w row place n) (λ i h. bits i h ∙ sym (bit_at-bits_in w row place n i h))

pub length-entries_in : (w v n : ℕ) (row : List ℕ) → length (entries_in w v n row) ≡ n
unfolding entries_in
length-entries_in w v n row = length-map-range_with_len (λ k. bits_in w row (k * v) v) 0 n

pub get_or-entries_in : (w v n : ℕ) (row : List ℕ) (k : ℕ) → k < n → get_or (entries_in w v n row) k 0 ≡ bits_in w row (k * v) v
unfolding entries_in
get_or-entries_in w v n row k h = get_or-map-range_with_len (λ k. bits_in w row (k * v) v) 0 n k k 0 h (omega arith)

-- one entry more
pub entries_in-more : (w v n : ℕ) (row : List ℕ) → entries_in w v (n + 1) row ≡ entries_in w v n row ++ bits_in w row (n * v) v ∷ []
unfolding entries_in
entries_in-more w v n row = map-range_with_len_more (λ k. bits_in w row (k * v) v) 0 n n (omega arith)

-- the bits stay
pub bit_in-entries_in : (w v n : ℕ) (row : List ℕ) (j : ℕ) → 0 < v → j < n * v → bit_in v (entries_in w v n row) j ≡ bit_in w row j
bit_in-entries_in w v n row j some h =
    let entry = get_or-entries_in w v n row (j / v) (div_below j v n some h) in
    let whole = div-add-mod' j v in
    let low = mod_below j v some in
    ap (λ (x : ℕ). bit_at x (j % v)) entry ∙ bit_at-bits_in w row (j / v * v) v (j % v) low ∙ ap (λ (x : ℕ). bit_in w row x) whole

-- bit i of entry k
pub bit_in_at : (w k i : ℕ) (row : List ℕ) → i < w → bit_in w row (k * w + i) ≡ bit_at (slice_index row k) i
bit_in_at w k i row h = rw (div-mul-add k w i h, mod-mul-add k w i h) refl

place_below : (k i w m : ℕ) → k < m → i < w → k * w + i < m * w
place_below k i w m row column =
    let below : suc k * w ≤ m * w = mul-le-mul_right w row in
    omega (arith, below, suc-mul k w)

-- a row of other entries with the same bits, and back
pub entries_in-entries_in : (w v m n : ℕ) (row : List ℕ) → length row ≡ m → n * v ≡ m * w → 0 < v → ((k : ℕ) → k < m → slice_index row k < 2 ^ w)
    → entries_in v w m (entries_in w v n row) ≡ row
entries_in-entries_in w v m n row many whole some fits =
    same_lists (entries_in v w m (entries_in w v n row)) row (length-entries_in v w m (entries_in w v n row) ∙ sym many)
    (λ k d h.
    let within : k < m = omega (arith, h, length-entries_in v w m (entries_in w v n row)) in
    let there : k < length row = omega arith in
    let bits : bits_in v (entries_in w v n row) (k * w) w ≡ get_or row k 0 =
    sym (same_as_bits_in v (entries_in w v n row) (k * w) w (get_or row k 0) (fits k within)
    (λ i small. sym (bit_in-entries_in w v n row (k * w + i) some (let below = place_below k i w m within small in omega arith) ∙ bit_in_at w k i row small)))
    in
    get_or_default (entries_in v w m (entries_in w v n row)) k d 0 h ∙ get_or-entries_in v w m (entries_in w v n row) k within ∙ bits ∙ get_or_default row k 0 d there)

-- What a reader has after one more bit, and that it fits.
pub read_more : (most w : ℕ) (row : List ℕ) (place i value bit : ℕ) → i < most → value ≡ bits_in w row place i → bit ≡ bit_in w row (place + i)
    → (value + bit * 2 ^ i % 2 ^ most ≡ bits_in w row place (i + 1)) × (value + bit * 2 ^ i % 2 ^ most < 2 ^ most)
read_more most w row place i value bit h v b =
    let small = bit_at-lt (slice_index row ((place + i) / w)) ((place + i) % w) in
    let below : bit < 2 ^ 1 = rw b (omega arith) in
    let whole = shl_whole bit 1 i most below (omega arith) in
    let sum : value + bit * 2 ^ i % 2 ^ most ≡ bits_in w row place (i + 1) = rw (whole, v, b) (sym (bits_in-push w row place i)) in
    let fits = bits_in-lt w row place (i + 1) in
    let wide = pow_mono {i = i + 1} {j = most} (omega arith) in
    (sum, rw sum (omega arith))

-- entries of w bits are below 2 ^ w
pub bits_in-fits : (w v most : ℕ) (row : List ℕ) (place : ℕ) → v ≤ most → bits_in w row place v < 2 ^ most
bits_in-fits w v most row place h =
    let small = bits_in-lt w row place v in
    let wide = pow_mono {i = v} {j = most} h in
    omega arith

pub entries_in-zero : (w v : ℕ) (row : List ℕ) → entries_in w v 0 row ≡ []
unfolding entries_in
entries_in-zero w v row = refl

-- one entry more is written after those before it
pub entries_written : (w v k x : ℕ) (row out : List ℕ) → take k out ≡ entries_in w v k row → x ≡ bits_in w row (k * v) v → k < length out
    → take (k + 1) (set out k x) ≡ entries_in w v (k + 1) row
entries_written w v k x row out before e within =
    rw (take_more_set out k x within, before, e) (sym (entries_in-more w v k row))

-- the same, each raised
pub raised_written : (w v k x more : ℕ) (row out : List ℕ) → take k out ≡ raised more (entries_in w v k row) → x ≡ bits_in w row (k * v) v → k < length out
    → take (k + 1) (set out k (x + more)) ≡ raised more (entries_in w v (k + 1) row)
raised_written w v k x more row out before e within =
    rw (take_more_set out k (x + more) within, before, e, entries_in-more w v k row) (sym (map-append (λ (e : ℕ). e + more) (entries_in w v k row) (bits_in w row (k * v) v ∷ [])))

pub all_raised : (w more : ℕ) (bytes out : List ℕ) → take 128 out ≡ raised more (entries_in 8 w 128 bytes) → length out ≡ 128 → out ≡ raised more (unpacked w bytes)
unfolding unpacked
all_raised w more bytes out e many = sym (take_all 128 out (omega arith)) ∙ e

pub all_packed : (w n : ℕ) (entries out : List ℕ) → take n out ≡ entries_in w 8 n entries → n ≡ 16 * w → take (16 * w) out ≡ packed w entries
unfolding packed
all_packed w n entries out e many = rw (← many) e
