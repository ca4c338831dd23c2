-- Lists of bits, written piece by piece and read back.
use Rattle.std.proofs.Common.{◌≡◌, ℕ, zero, suc, ◌+◌, ◌*◌, ◌/◌, ◌%◌, ◌^◌, ◌<◌, ◌≤◌, List, [], ◌∷◌, ◌++◌, length, take, drop, refl, sym, ap, ◌∙◌, arith, append_assoc, length-append}
use Rattle.std.proofs.lemmas.List.{append-nil, length-take-le, take-append-drop, get_or_append_left, get_or-append-add, drop-append-le, drop-drop}
use Rattle.std.proofs.lemmas.Nat.Bits.{bit_at-lt}
use Rattle.ii_codes.specs.Packed.{bit_in, bits_in, entries_in}
use Rattle.ii_codes.specs.Bits.{low_bits, whole_bytes, bits_left, bits_bytes, WritesOneRow, ReadsFromItsPlace}
use Rattle.ii_codes.proofs.PackedLemmas.{same_as_bits_in, entries_in-zero, entries_in-more, length-entries_in, bit_in-entries_in}
use Rattle.ii_codes.proofs.PackedLaws.{bits_in_same, bits_in-append}
use Rattle.ii_codes.proofs.BitsLemmas.{length-low_bits, length-bits_left}
use Rattle.ii_codes.proofs.BitLemmas.{get_or-low_bits}

-- entries of the front
front_entries : (p q : List ℕ) (n : ℕ) → n * 8 ≤ length p → entries_in 1 8 n (p ++ q) ≡ entries_in 1 8 n p
front_entries p q zero h = entries_in-zero 1 8 (p ++ q) ∙ sym (entries_in-zero 1 8 p)
front_entries p q (suc n) h =
    let one : suc n ≡ n + 1 = omega arith in
    rw (one, entries_in-more 1 8 n (p ++ q), entries_in-more 1 8 n p, front_entries p q n (omega arith), bits_in-append 1 p q (n * 8) 8 (omega arith) (omega arith)) refl

bit_after : (p q : List ℕ) (j : ℕ) → bit_in 1 (p ++ q) (length p + j) ≡ bit_in 1 q j
bit_after p q j =
    let here : (length p + j) / 1 ≡ length p + j = omega arith in
    let none : (length p + j) % 1 ≡ 0 = omega arith in
    let there : j / 1 ≡ j = omega arith in
    let nothing : j % 1 ≡ 0 = omega arith in
    rw (here, none, there, nothing, get_or-append-add p q j 0) refl

-- bits after a front
pub bits_after : (p q : List ℕ) (place j n : ℕ) → place ≡ length p + j → bits_in 1 (p ++ q) place n ≡ bits_in 1 q j n
bits_after p q place j n e =
    bits_in_same 1 1 (p ++ q) q place j n
    (λ i small. let there : place + i ≡ length p + (j + i) = omega arith in rw there (bit_after p q (j + i)))

-- bits after complete bytes
aligned : (p q : List ℕ) (n m : ℕ) → length p ≡ n * 8 → entries_in 1 8 (n + m) (p ++ q) ≡ entries_in 1 8 n p ++ entries_in 1 8 m q
aligned p q n zero h =
    let same : n + 0 ≡ n = omega arith in
    rw (same, entries_in-zero 1 8 q, append-nil (entries_in 1 8 n p)) (front_entries p q n (omega arith))
aligned p q n (suc m) h =
    let one : n + suc m ≡ n + m + 1 = omega arith in
    let other : suc m ≡ m + 1 = omega arith in
    rw (one, other, entries_in-more 1 8 (n + m) (p ++ q), entries_in-more 1 8 m q, aligned p q n m h, bits_after p q ((n + m) * 8) (m * 8) 8 (omega arith))
    (append_assoc (entries_in 1 8 n p) (entries_in 1 8 m q) (bits_in 1 q (m * 8) 8 ∷ []))

-- bits as complete bytes and the remaining bits
split_row : (xs : List ℕ) → xs ≡ take (length xs / 8 * 8) xs ++ bits_left xs
split_row xs = sym (take-append-drop (length xs / 8 * 8) xs)

whole_is : (xs : List ℕ) → whole_bytes xs ≡ entries_in 1 8 (length xs / 8) (take (length xs / 8 * 8) xs)
unfolding whole_bytes
whole_is xs =
    let within : length xs / 8 * 8 ≤ length xs = omega arith in
    let size = length-take-le (length xs / 8 * 8) xs within in
    ap (entries_in 1 8 (length xs / 8)) (split_row xs) ∙ front_entries (take (length xs / 8 * 8) xs) (bits_left xs) (length xs / 8) (omega arith)

rows_join : (xs ys : List ℕ) (m total : ℕ) → total ≡ length xs / 8 + m
    → entries_in 1 8 total (xs ++ ys) ≡ whole_bytes xs ++ entries_in 1 8 m (bits_left xs ++ ys)
rows_join xs ys m total e =
    let within : length xs / 8 * 8 ≤ length xs = omega arith in
    let size = length-take-le (length xs / 8 * 8) xs within in
    let parts = ap (λ (zs : List ℕ). zs ++ ys) (split_row xs) ∙ append_assoc (take (length xs / 8 * 8) xs) (bits_left xs) ys in
    rw (e, whole_is xs) (ap (entries_in 1 8 (length xs / 8 + m)) parts ∙ aligned (take (length xs / 8 * 8) xs) (bits_left xs ++ ys) (length xs / 8) m size)

whole_join : (xs ys : List ℕ) → whole_bytes xs ++ whole_bytes (bits_left xs ++ ys) ≡ whole_bytes (xs ++ ys)
unfolding whole_bytes
whole_join xs ys =
    let sum : length (xs ++ ys) / 8 ≡ length xs / 8 + length (bits_left xs ++ ys) / 8 = omega (arith, length-append xs ys, length-append (bits_left xs) ys, length-bits_left xs) in
    sym (rows_join xs ys (length (bits_left xs ++ ys) / 8) (length (xs ++ ys) / 8) sum)

left_join : (xs ys : List ℕ) → bits_left (bits_left xs ++ ys) ≡ bits_left (xs ++ ys)
left_join xs ys =
    let within : length xs / 8 * 8 ≤ length xs = omega arith in
    let front = drop-append-le (length xs / 8 * 8) xs ys within in
    let twice = drop-drop (length (bits_left xs ++ ys) / 8 * 8) (length xs / 8 * 8) (xs ++ ys) in
    let sum : length xs / 8 * 8 + length (bits_left xs ++ ys) / 8 * 8 ≡ length (xs ++ ys) / 8 * 8 = omega (arith, length-append xs ys, length-append (bits_left xs) ys, length-bits_left xs) in
    ap (drop (length (bits_left xs ++ ys) / 8 * 8)) (sym front) ∙ twice ∙ ap (λ (n : ℕ). drop n (xs ++ ys)) sum

bytes_join : (xs : List ℕ) → whole_bytes xs ++ bits_bytes (bits_left xs) ≡ bits_bytes xs
unfolding bits_bytes
bytes_join xs =
    let sum : (length xs + 7) / 8 ≡ length xs / 8 + (length (bits_left xs) + 7) / 8 = omega (arith, length-bits_left xs) in
    let joined = rows_join xs [] ((length (bits_left xs) + 7) / 8) ((length xs + 7) / 8) sum in
    sym (rw (append-nil xs, append-nil (bits_left xs)) at joined)

pub writes_one_row : WritesOneRow
writes_one_row xs ys = (whole_join xs ys, left_join xs ys, bytes_join xs)

-- bits of a row's bytes are bits of the row
pub bits_in-bits_bytes : (bits rest : List ℕ) (place w : ℕ) → place + w ≤ length bits → bits_in 8 (bits_bytes bits ++ rest) place w ≡ bits_in 1 bits place w
unfolding bits_bytes
bits_in-bits_bytes bits rest place w h =
    let size = length-entries_in 1 8 ((length bits + 7) / 8) bits in
    bits_in-append 8 (entries_in 1 8 ((length bits + 7) / 8) bits) rest place w (omega arith) (omega arith)
    ∙ bits_in_same 8 1 (entries_in 1 8 ((length bits + 7) / 8) bits) bits place place w
    (λ i small. bit_in-entries_in 1 8 ((length bits + 7) / 8) bits (place + i) (omega arith) (omega arith))

-- the bits of a number are the number
pub bits_in-low_bits : (w n : ℕ) (rest : List ℕ) → n < 2 ^ w → bits_in 1 (low_bits w n ++ rest) 0 w ≡ n
bits_in-low_bits w n rest fits =
    sym (same_as_bits_in 1 (low_bits w n ++ rest) 0 w n fits
    (λ i below.
    let here : (0 + i) / 1 ≡ i = omega arith in
    let none : (0 + i) % 1 ≡ 0 = omega arith in
    let bit = get_or_append_left (low_bits w n) rest 0 i (omega (arith, length-low_bits w n)) ∙ get_or-low_bits w n i below in
    let small = bit_at-lt n i in
    rw (here, none, bit) (omega arith)))

pub reads_from_its_place : ReadsFromItsPlace
reads_from_its_place before after rest w n fits =
    let row = append_assoc before (low_bits w n) after in
    let within : length before + w ≤ length (before ++ low_bits w n ++ after) =
    omega (arith, length-append (before ++ low_bits w n) after, length-append before (low_bits w n), length-low_bits w n)
    in
    bits_in-bits_bytes (before ++ low_bits w n ++ after) rest (length before) w within
    ∙ ap (λ (xs : List ℕ). bits_in 1 xs (length before) w) row
    ∙ bits_after before (low_bits w n ++ after) (length before) 0 w (omega arith)
    ∙ bits_in-low_bits w n after fits
