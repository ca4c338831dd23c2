-- Laws of lists of bits.
use Rattle.std.proofs.Common.{◌≡◌, ℕ, zero, suc, ◌+◌, ◌-◌, ◌*◌, ◌/◌, ◌%◌, ◌^◌, ◌<◌, ◌≤◌, List, [], ◌∷◌, ◌++◌, length, take, drop, get_or, refl, sym, ap, ◌∙◌, arith, length-append, length-drop, min, ⊎_elim}
use Rattle.std.specs.Prelude.{slice_set}
use Rattle.std.proofs.lemmas.Bool.{cases_lt}
use Rattle.std.proofs.lemmas.Nat.Bits.{bit_at-suc, bit_at_lowest, bit_at-lt}
use Rattle.std.proofs.lemmas.List.{append-nil, same_lists, get_or_append_left, get_or-append_right, get_or_past, get_or-drop, get_or_default}
use Rattle.std.specs.Int.{bit_at}
use Rattle.ii_codes.specs.Packed.{bit_in, bits_in, entries_in}
use Rattle.ii_codes.specs.Bits.{low_bits, whole_bytes, bits_left, bits_bytes}
use Rattle.ii_codes.proofs.BitsLemmas.{length-low_bits}
use Rattle.ii_codes.proofs.PackedLemmas.{bits_in-lt, bit_at-bits_in, bits_in-push, same_as_bits_in, entries_in-zero, entries_in-more, read_more}

pub get_or-low_bits : (w n i : ℕ) → i < w → get_or (low_bits w n) i 0 ≡ bit_at n i
get_or-low_bits zero n i h = absurd (omega arith)
get_or-low_bits (suc w) n zero h = sym (bit_at_lowest n)
get_or-low_bits (suc w) n (suc i) h = get_or-low_bits w (n / 2) i (omega arith) ∙ sym (bit_at-suc n i)

-- Each is a bit.
pub record AreBits (bits : List ℕ) : Type 0 where
  pub each : (i : ℕ) → get_or bits i 0 < 2

pub AreBits-nil : AreBits []
AreBits-nil = record { each = λ i. omega arith }

pub AreBits-low_bits : (w n : ℕ) → AreBits (low_bits w n)
AreBits-low_bits w n = record {
  each = λ i.
      let past = get_or_past (low_bits w n) i 0 in
      let size = length-low_bits w n in
      ⊎_elim (λ below. rw (get_or-low_bits w n i below) (bit_at-lt n i)) (λ above. rw (past (omega arith)) (omega arith)) (cases_lt i w);
}

pub AreBits-append : (xs ys : List ℕ) → AreBits xs → AreBits ys → AreBits (xs ++ ys)
AreBits-append xs ys h g = record {
  each = λ i.
      ⊎_elim
      (λ below. rw (get_or_append_left xs ys 0 i below) (h.each i))
      (λ above. rw (get_or-append_right xs ys (length xs) i 0 refl above) (g.each (i - length xs)))
      (cases_lt i (length xs));
}

-- a bit of a row of bits is its element
pub bit_in-one : (row : List ℕ) (place : ℕ) → AreBits row → bit_in 1 row place ≡ get_or row place 0
bit_in-one row place h =
    let bit = h.each place in
    let here : place / 1 ≡ place = omega arith in
    let none : place % 1 ≡ 0 = omega arith in
    rw (here, none) (omega arith)

-- bit place of two numbers' bits
pub bit_of-low : (len low w val place : ℕ) → place < len → low / 2 ^ place % 2 ≡ get_or (low_bits len low ++ low_bits w val) place 0
bit_of-low len low w val place h =
    sym (get_or_append_left (low_bits len low) (low_bits w val) 0 place (omega (arith, length-low_bits len low)) ∙ get_or-low_bits len low place h)

pub bit_of-high : (len low w val place : ℕ) → len ≤ place → place - len < w → val / 2 ^ (place - len) % 2 ≡ get_or (low_bits len low ++ low_bits w val) place 0
bit_of-high len low w val place h g =
    sym (get_or-append_right (low_bits len low) (low_bits w val) len place 0 (length-low_bits len low) h ∙ get_or-low_bits w val (place - len) g)

pub bit_of-past : (len low w val place : ℕ) → len ≤ place → w ≤ place - len → 0 ≡ get_or (low_bits len low ++ low_bits w val) place 0
bit_of-past len low w val place h g =
    sym (get_or_past (low_bits len low ++ low_bits w val) place 0 (omega (arith, length-append (low_bits len low) (low_bits w val), length-low_bits len low, length-low_bits w val)))

pub AreBits-two : (len low w val : ℕ) → AreBits (low_bits len low ++ low_bits w val)
AreBits-two len low w val = AreBits-append (low_bits len low) (low_bits w val) (AreBits-low_bits len low) (AreBits-low_bits w val)

-- one bit more of a byte of such a row
pub bit_more : (len low w val start i byte bit : ℕ) → i < 8 → byte ≡ bits_in 1 (low_bits len low ++ low_bits w val) start i → bit ≡ get_or (low_bits len low ++ low_bits w val) (start + i) 0
    → (byte + bit * 2 ^ i % 2 ^ 8 ≡ bits_in 1 (low_bits len low ++ low_bits w val) start (i + 1)) × (byte + bit * 2 ^ i % 2 ^ 8 < 2 ^ 8)
bit_more len low w val start i byte bit h e b =
    read_more 8 1 (low_bits len low ++ low_bits w val) start i byte bit h e (b ∙ sym (bit_in-one (low_bits len low ++ low_bits w val) (start + i) (AreBits-two len low w val)))

-- after a row all bits are 0
pub bits_in-end : (row : List ℕ) (place n m : ℕ) → AreBits row → length row ≤ place + n → bits_in 1 row place (n + m) ≡ bits_in 1 row place n
bits_in-end row place n zero h end = let same : n + 0 ≡ n = omega arith in rw same refl
bits_in-end row place n (suc m) h end =
    let more : n + suc m ≡ n + m + 1 = omega arith in
    let bit = bit_in-one row (place + (n + m)) h in
    let none = get_or_past row (place + (n + m)) 0 (omega arith) in
    let ih = bits_in-end row place n m h end in
    let last : bit_in 1 row (place + (n + m)) ≡ 0 = bit ∙ none in
    rw more (bits_in-push 1 row place (n + m) ∙ ap (λ (x : ℕ). bits_in 1 row place (n + m) + x * 2 ^ (n + m)) last ∙ plus_none (bits_in 1 row place (n + m)) (2 ^ (n + m)) ∙ ih)
  where
    plus_none : (a p : ℕ) → a + 0 * p ≡ a
    plus_none a p = omega arith

-- the bits of a row from a place to its end, as a number and as bits again
pub low_bits-bits_in : (row : List ℕ) (place n : ℕ) → AreBits row → length row ≡ place + n → low_bits n (bits_in 1 row place n) ≡ drop place row
low_bits-bits_in row place n h size =
    let left : length (drop place row) ≡ n = omega (arith, length-drop place row) in
    same_lists (low_bits n (bits_in 1 row place n)) (drop place row) (length-low_bits n (bits_in 1 row place n) ∙ sym left)
    (λ i d within.
    let below : i < n = omega (arith, length-low_bits n (bits_in 1 row place n)) in
    let there : i < length (drop place row) = omega arith in
    get_or_default (low_bits n (bits_in 1 row place n)) i d 0 within
    ∙ get_or-low_bits n (bits_in 1 row place n) i below
    ∙ bit_at-bits_in 1 row place n i below
    ∙ bit_in-one row (place + i) h
    ∙ sym (get_or-drop place row i 0)
    ∙ get_or_default (drop place row) i 0 d there)

-- a number is that of its bits, whatever follows
pub bits_in-low_bits : (w n : ℕ) (rest : List ℕ) → AreBits rest → n < 2 ^ w → bits_in 1 (low_bits w n ++ rest) 0 w ≡ n
bits_in-low_bits w n rest h fits =
    sym (same_as_bits_in 1 (low_bits w n ++ rest) 0 w n fits
    (λ i below.
    let here : 0 + i ≡ i = omega arith in
    rw here (sym (bit_in-one (low_bits w n ++ rest) i (AreBits-append (low_bits w n) rest (AreBits-low_bits w n) h) ∙ get_or_append_left (low_bits w n) rest 0 i (omega (arith, length-low_bits w n)) ∙ get_or-low_bits w n i below))))

-- What a packer holds after a row of bits, as it names its parts.
pub left_after : (len low w val end whole byte : ℕ) → end ≡ len + w → whole ≡ end / 8 → byte ≡ bits_in 1 (low_bits len low ++ low_bits w val) (whole * 8) 8
    → (byte < 2 ^ (end % 8)) × (low_bits (end % 8) byte ≡ bits_left (low_bits len low ++ low_bits w val))
left_after len low w val end whole byte e q b =
    let row = low_bits len low ++ low_bits w val in
    let are = AreBits-two len low w val in
    let size : length (low_bits len low ++ low_bits w val) ≡ end = omega (arith, length-append (low_bits len low) (low_bits w val), length-low_bits len low, length-low_bits w val) in
    let rest : end % 8 + (8 - end % 8) ≡ 8 = omega arith in
    let until : whole * 8 + end % 8 ≡ end = omega arith in
    let short = rw rest at (bits_in-end (low_bits len low ++ low_bits w val) (whole * 8) (end % 8) (8 - end % 8) are (omega arith)) in
    let value = b ∙ short in
    let place : length (low_bits len low ++ low_bits w val) / 8 * 8 ≡ whole * 8 = omega arith in (
      rw value (bits_in-lt 1 (low_bits len low ++ low_bits w val) (whole * 8) (end % 8)),
      rw (place, value) (low_bits-bits_in (low_bits len low ++ low_bits w val) (whole * 8) (end % 8) are (omega arith)),
    )

pub all_whole : (bits bytes : List ℕ) (whole : ℕ) → whole ≡ length bits / 8 → take whole bytes ≡ entries_in 1 8 whole bits → take whole bytes ≡ whole_bytes bits
unfolding whole_bytes
all_whole bits bytes whole e h = rw (← e) h

pub length-two : (len low w val : ℕ) → length (low_bits len low ++ low_bits w val) ≡ len + w
length-two len low w val = omega (arith, length-append (low_bits len low) (low_bits w val), length-low_bits len low, length-low_bits w val)

-- the last byte, if there are bits left
pub bits_bytes-left : (len low : ℕ) → len < 8 → low < 2 ^ len → take (min len 1) (low ∷ []) ≡ bits_bytes (low_bits len low)
unfolding bits_bytes
bits_bytes-left zero low h fits = sym (entries_in-zero 1 8 [])
bits_bytes-left (suc len) low h fits =
    let size = length-low_bits (suc len) low in
    let one : min (suc len) 1 ≡ 1 = omega arith in
    let count : (length (low_bits (suc len) low) + 7) / 8 ≡ 0 + 1 = omega arith in
    let rest : suc len + (8 - suc len) ≡ 8 = omega arith in
    let nothing = append-nil (low_bits (suc len) low) in
    let end = rw rest at (bits_in-end (low_bits (suc len) low) 0 (suc len) (8 - suc len) (AreBits-low_bits (suc len) low) (omega arith)) in
    let value = rw nothing at (bits_in-low_bits (suc len) low [] AreBits-nil fits) in
    rw (one, count, entries_in-more 1 8 0 (low_bits (suc len) low), entries_in-zero 1 8 (low_bits (suc len) low)) (ap (λ (x : ℕ). x ∷ []) (sym (end ∙ value)))

-- What a packer writes, as it names its parts.
pub written_whole : (len low w val whole size : ℕ) (bytes : List ℕ) → whole ≡ (len + w) / 8 → size ≡ whole → take whole bytes ≡ entries_in 1 8 whole (low_bits len low ++ low_bits w val)
    → take size bytes ≡ whole_bytes (low_bits len low ++ low_bits w val)
written_whole len low w val whole size bytes e s h =
    rw s (all_whole (low_bits len low ++ low_bits w val) bytes whole (rw (length-two len low w val) e) h)

pub finish_front : (n low : ℕ) (last : List ℕ) → n ≤ 1 → 0 < length last → take n (slice_set last 0 low) ≡ take n (low ∷ [])
finish_front n low [] h some = absurd (omega arith)
finish_front zero low (x ∷ xs) h some = refl
finish_front (suc zero) low (x ∷ xs) h some = refl
finish_front (suc (suc n)) low (x ∷ xs) h some = absurd (omega arith)
