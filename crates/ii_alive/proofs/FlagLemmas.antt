-- The bytes of flags.
use Rattle.std.proofs.Common.{◌≡◌, ℕ, zero, suc, ◌+◌, ◌-◌, ◌*◌, ◌<◌, ◌≤◌, ◌≢◌, if◌then◌else◌, lit<, Bool, true, false, not, ◌&&◌, List, [], ◌∷◌, ◌++◌, length, map, take, drop, replicate, nat_eq, refl, sym, ap, ◌∙◌, arith, append_assoc, ⊎_elim}
use Rattle.std.specs.Prelude.{Some, None}
use Rattle.std.specs.List.{list_all, range_with_len}
use Rattle.std.proofs.lemmas.Bool.{cases_lt, eq-eqb, eqb-true, ne_eqb}
use Rattle.std.proofs.Math.Nat.{pow-le-pow_right}
use Rattle.std.proofs.lemmas.List.{append-nil, drop-drop, drop_all, drop_at, length-drop, length-take, length-take-le, nil_from_length, replicate-append-replicate, take-append-drop, take_all, take_at}
use Rattle.std.proofs.lemmas.List.FromFn.{length-map-range_with_len}
use Rattle.ii_io.specs.Numbers.{AreBytes}
use Rattle.ii_alive.specs.AliveBytes.{HasOneEncoding, ReadsWrittenFlags, alive_byte, alive_bytes, alive_of, bits_of, byte_bits, num_words, number_of_bits}
use Rattle.ii_alive.proofs.BitLemmas.{bits_of-number, length-bits_of, number_of-bits_of, number_of_bits-lt}
use Rattle.ii_alive.proofs.WordLemmas.{length-bits_in}

-- how many words documents need
pub enough_words : (n : ℕ) → n ≤ 64 * num_words n
unfolding num_words
enough_words n = omega arith

-- flags none of which is set
pub none_from : (bs : List Bool) → list_all not bs ≡ true → bs ≡ replicate (length bs) false
none_from [] none = refl
none_from (true ∷ bs) none = absurd (cc)
none_from (false ∷ bs) none = ap (λ (l : List Bool). false ∷ l) (none_from bs none)

pub none_of_replicate : (n : ℕ) → list_all not (replicate n false) ≡ true
none_of_replicate zero = refl
none_of_replicate (suc n) = none_of_replicate n

-- the first bytes of flags
abbrev first_bytes : ℕ → List Bool → List ℕ
first_bytes count alive = map (alive_byte alive) (range_with_len 0 count)

bytes_later : (alive : List Bool) (i count : ℕ) → map (alive_byte alive) (range_with_len (i + 1) count) ≡ map (alive_byte (drop 8 alive)) (range_with_len i count)
bytes_later alive i zero = refl
bytes_later alive i (suc count) =
    let place : 8 * (i + 1) ≡ 8 + 8 * i = omega arith in
    let flags : drop (8 * (i + 1)) alive ≡ drop (8 * i) (drop 8 alive) = ap (λ (m : ℕ). drop m alive) place ∙ sym (drop-drop (8 * i) 8 alive) in
    ap (λ (l : List Bool). number_of_bits (take 8 l) ∷ map (alive_byte alive) (range_with_len (i + 1 + 1) count)) flags
    ∙ ap (λ (l : List ℕ). alive_byte (drop 8 alive) i ∷ l) (bytes_later alive (i + 1) count)

more_bytes : (alive : List Bool) (count : ℕ) → first_bytes (suc count) alive ≡ number_of_bits (take 8 alive) ∷ first_bytes count (drop 8 alive)
more_bytes alive count = ap (λ (l : List ℕ). number_of_bits (take 8 alive) ∷ l) (bytes_later alive 0 count)

-- the bits of a byte of at most eight flags
few_bits : (alive : List Bool) → length alive ≤ 8 → bits_of 8 (number_of_bits alive) ≡ alive ++ replicate (8 - length alive) false
few_bits alive within =
    let all : 8 ≡ length alive + (8 - length alive) = omega arith in
    ap (λ (m : ℕ). bits_of m (number_of_bits alive)) all ∙ bits_of-number alive (8 - length alive)

-- the bits of written bytes are the flags, and zeros
pub byte_bits-first_bytes : (count : ℕ) (alive : List Bool) → length alive ≤ 8 * count → byte_bits (first_bytes count alive) ≡ alive ++ replicate (8 * count - length alive) false
byte_bits-first_bytes zero alive within =
    let none : alive ≡ [] = nil_from_length alive (omega arith) in
    rw none refl
byte_bits-first_bytes (suc count) alive within =
    ap byte_bits (more_bytes alive count)
    ∙ ap (λ (l : List Bool). bits_of 8 (number_of_bits (take 8 alive)) ++ l) (byte_bits-first_bytes count (drop 8 alive) (omega (arith, length-drop 8 alive)))
    ∙ ⊎_elim short long (cases_lt (length alive) 8)
  where
    rest : List Bool
    rest = drop 8 alive ++ replicate (8 * count - length (drop 8 alive)) false

    short : length alive < 8 → bits_of 8 (number_of_bits (take 8 alive)) ++ rest ≡ alive ++ replicate (8 * suc count - length alive) false
    short below =
        let n = length alive in
        let whole : take 8 alive ≡ alive = take_all 8 alive (omega arith) in
        let none : drop 8 alive ≡ [] = drop_all 8 alive (omega arith) in
        let zeros : 8 - n + 8 * count ≡ 8 * suc count - n = omega arith in
        let all : 8 * count - 0 ≡ 8 * count = omega arith in
        rw (whole, none, all)
        (ap (λ (l : List Bool). l ++ replicate (8 * count) false) (few_bits alive (omega arith))
        ∙ append_assoc alive (replicate (8 - n) false) (replicate (8 * count) false)
        ∙ ap (λ (l : List Bool). alive ++ l) (replicate-append-replicate (8 - n) (8 * count) false ∙ ap (λ (m : ℕ). replicate m false) zeros))

    long : 8 ≤ length alive → bits_of 8 (number_of_bits (take 8 alive)) ++ rest ≡ alive ++ replicate (8 * suc count - length alive) false
    long enough =
        let n = length alive in
        let size : length (take 8 alive) ≡ 8 = length-take-le 8 alive enough in
        let no_zeros : 8 - length (take 8 alive) ≡ 0 = omega arith in
        let zeros : 8 * count - length (drop 8 alive) ≡ 8 * suc count - n = omega (arith, length-drop 8 alive) in
        ap (λ (l : List Bool). l ++ rest) (few_bits (take 8 alive) (omega arith) ∙ ap (λ (m : ℕ). take 8 alive ++ replicate m false) no_zeros ∙ append-nil (take 8 alive))
        ∙ sym (append_assoc (take 8 alive) (drop 8 alive) (replicate (8 * count - length (drop 8 alive)) false))
        ∙ ap (λ (l : List Bool). l ++ replicate (8 * count - length (drop 8 alive)) false) (take-append-drop 8 alive)
        ∙ ap (λ (m : ℕ). alive ++ replicate m false) zeros

-- bytes with the same bits
pub same_bytes : (xs ys : List ℕ) → AreBytes xs → AreBytes ys → length xs ≡ length ys → byte_bits xs ≡ byte_bits ys → xs ≡ ys
same_bytes [] [] are_xs are_ys size bits = refl
same_bytes [] (y ∷ ys) are_xs are_ys size bits = absurd (cc)
same_bytes (x ∷ xs) [] are_xs are_ys size bits = absurd (cc)
same_bytes (x ∷ xs) (y ∷ ys) are_xs are_ys size bits =
    let first : bits_of 8 x ≡ bits_of 8 y =
    sym (take_at (bits_of 8 x) (byte_bits xs) 8 (length-bits_of 8 x)) ∙ ap (take 8) bits ∙ take_at (bits_of 8 y) (byte_bits ys) 8 (length-bits_of 8 y) in
    let others : byte_bits xs ≡ byte_bits ys =
    sym (drop_at (bits_of 8 x) (byte_bits xs) 8 (length-bits_of 8 x)) ∙ ap (drop 8) bits ∙ drop_at (bits_of 8 y) (byte_bits ys) 8 (length-bits_of 8 y) in
    let byte : x ≡ y = sym (number_of-bits_of 8 x are_xs.0) ∙ ap number_of_bits first ∙ number_of-bits_of 8 y are_ys.0 in
    let rest : xs ≡ ys = same_bytes xs ys are_xs.1 are_ys.1 (let sizes : suc (length xs) ≡ suc (length ys) = size in omega arith) others in
    cc

byte-lt : (alive : List Bool) (i : ℕ) → alive_byte alive i < 256
byte-lt alive i =
    let bits = take 8 (drop (8 * i) alive) in
    let most : length bits ≤ 8 = omega (arith, length-take 8 (drop (8 * i) alive)) in
    omega (arith, number_of_bits-lt bits, pow-le-pow_right {n = 2} (lit< tt) most)

are_bytes_from : (alive : List Bool) (i count : ℕ) → AreBytes (map (alive_byte alive) (range_with_len i count))
are_bytes_from alive i zero = tt
are_bytes_from alive i (suc count) = (byte-lt alive i, are_bytes_from alive (i + 1) count)

-- what bytes with these bits hold
pub alive_of-bits : (n : ℕ) (bytes : List ℕ) → length bytes ≡ 8 * num_words n → list_all not (drop n (byte_bits bytes)) ≡ true → alive_of n bytes ≡ Some (take n (byte_bits bytes))
unfolding alive_of
alive_of-bits n bytes size none = rw (eq-eqb (length bytes) (8 * num_words n) size, none) refl

-- bytes that hold no flags: their number is wrong, or a bit after the last document is set
pub alive_of-size : (n : ℕ) (bytes : List ℕ) → length bytes ≢ 8 * num_words n → alive_of n bytes ≡ None
unfolding alive_of
alive_of-size n bytes other = rw (ne_eqb (length bytes) (8 * num_words n) other) refl

pub alive_of-unused : (n : ℕ) (bytes : List ℕ) → list_all not (drop n (byte_bits bytes)) ≡ false → alive_of n bytes ≡ None
unfolding alive_of
alive_of-unused n bytes some = rw some (by (nat_eq (length bytes) (8 * num_words n)))
  where
    by : (b : Bool) → (if b && false then Some (take n (byte_bits bytes)) else None) ≡ None
    by true = refl
    by false = refl

-- What bytes that hold flags are.
record HoldFlags (n : ℕ) (bytes : List ℕ) (alive : List Bool) : Type 0 where
  size : length bytes ≡ 8 * num_words n
  unused : list_all not (drop n (byte_bits bytes)) ≡ true
  flags : take n (byte_bits bytes) ≡ alive

held_flags : (n : ℕ) (bytes : List ℕ) (alive : List Bool) → alive_of n bytes ≡ Some alive → HoldFlags n bytes alive
unfolding alive_of
held_flags n bytes alive held = by (nat_eq (length bytes) (8 * num_words n)) (list_all not (drop n (byte_bits bytes))) refl refl held
  where
    by : (b c : Bool) → nat_eq (length bytes) (8 * num_words n) ≡ b → list_all not (drop n (byte_bits bytes)) ≡ c
        → (if b && c then Some (take n (byte_bits bytes)) else None) ≡ Some alive → HoldFlags n bytes alive
    by true true size unused are = record { size = eqb-true (length bytes) (8 * num_words n) size; unused = unused; flags = cc }
    by true false size unused are = absurd (cc)
    by false true size unused are = absurd (cc)
    by false false size unused are = absurd (cc)

-- flags that are read have one for each document
pub length_of_flags : (n : ℕ) (bytes : List ℕ) (alive : List Bool) → alive_of n bytes ≡ Some alive → length alive ≡ n
length_of_flags n bytes alive held =
    let flags = held_flags n bytes alive held in
    ap length (sym (flags.flags)) ∙ length-take-le n (byte_bits bytes) (omega (arith, enough_words n, flags.size, length-bits_in 8 bytes))

pub reads_written_flags : ReadsWrittenFlags
unfolding alive_bytes
reads_written_flags alive =
    let n = length alive in
    let count = 8 * num_words n in
    let zeros = replicate (8 * count - n) false in
    let bits : byte_bits (first_bytes count alive) ≡ alive ++ zeros = byte_bits-first_bytes count alive (omega (arith, enough_words n)) in
    let none : list_all not (drop n (byte_bits (first_bytes count alive))) ≡ true =
    ap (λ (l : List Bool). list_all not (drop n l)) bits ∙ ap (list_all not) (drop_at alive zeros n refl) ∙ none_of_replicate (8 * count - n) in
    alive_of-bits n (first_bytes count alive) (length-map-range_with_len (alive_byte alive) 0 count) none
    ∙ ap (λ (l : List Bool). Some (take n l)) bits
    ∙ ap (λ (l : List Bool). Some l) (take_at alive zeros n refl)

pub has_one_encoding : HasOneEncoding
unfolding alive_bytes
has_one_encoding n bytes alive are held =
    let flags = held_flags n bytes alive held in
    let bits = byte_bits bytes in
    let size : length bits ≡ 8 * length bytes = length-bits_in 8 bytes in
    let docs : length alive ≡ n = ap length (sym (flags.flags)) ∙ length-take-le n bits (omega (arith, enough_words n, flags.size)) in
    let count = 8 * num_words (length alive) in
    let same_count : count ≡ length bytes = ap (λ (m : ℕ). 8 * num_words m) docs ∙ sym flags.size in
    let zeros : length (drop n bits) ≡ 8 * count - length alive = omega (arith, length-drop n bits) in
    let split : bits ≡ alive ++ replicate (8 * count - length alive) false =
    sym (take-append-drop n bits) ∙ ap (λ (l : List Bool). l ++ drop n bits) flags.flags
    ∙ ap (λ (l : List Bool). alive ++ l) (none_from (drop n bits) flags.unused ∙ ap (λ (m : ℕ). replicate m false) zeros) in
    same_bytes bytes (first_bytes count alive) are (are_bytes_from alive 0 count)
    (sym same_count ∙ sym (length-map-range_with_len (alive_byte alive) 0 count))
    (split ∙ sym (byte_bits-first_bytes count alive (omega (arith, enough_words (length alive)))))
