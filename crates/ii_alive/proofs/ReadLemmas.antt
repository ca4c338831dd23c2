-- Words that are read from bytes, and words of living documents.
use Rattle.std.proofs.Common.{◌≡◌, ℕ, zero, suc, ◌+◌, ◌-◌, ◌*◌, ◌/◌, ◌%◌, ◌^◌, ◌<◌, ◌≤◌, ◌≢◌, Bool, true, false, not, List, [], ◌∷◌, ◌++◌, length, get_or, take, drop, replicate, nat_eq, refl, sym, ap, ◌∙◌, arith, append_assoc}
use Rattle.std.specs.Prelude.{Option, Some, None}
use Rattle.std.specs.List.{list_all}
use Rattle.std.proofs.lemmas.Bool.{le-leb}
use Rattle.std.proofs.lemmas.Nat.{one_shl, pow_pos, shr_below}
use Rattle.std.proofs.Math.Nat.{div-eq_of_lt}
use Rattle.std.proofs.lemmas.List.{append-nil, drop-drop, drop-take, drop_all, drop_at, length-drop, length-replicate, length-take-le, length_push, replicate-append-replicate, take-append-drop, take-take, take_all, take_at, take_rest}
use Rattle.std.proofs.lemmas.List.Concat.{flat_map-append}
use Rattle.byteorder.specs.Endian.{little_number}
use Rattle.ii_io.specs.NumberLemmas.{number_at-some}
use Rattle.ii_io.specs.Numbers.{AreBytes, little_endian, number_at}
use Rattle.ii_alive.specs.AliveBits.{AreAliveWords, word_bits}
use Rattle.ii_alive.specs.AliveBytes.{bits_of, byte_bits, num_words}
use Rattle.ii_alive.proofs.BitLemmas.{bits_of-add, bits_of-ones, bits_of-zero, drop-bits_of, none-bits_of}
use Rattle.ii_alive.proofs.FlagLemmas.{none_of_replicate}
use Rattle.ii_alive.proofs.WordLemmas.{bits_of-little_endian, length-bits_in}

-- the number read, or 0
number_read : Option (ℕ × List ℕ) → ℕ
number_read None = 0
number_read (Some (n, rest)) = n

little_number_is : (bytes : List ℕ) → 8 ≤ length bytes → little_number 8 bytes ≡ little_endian (take 8 bytes)
unfolding number_at number_read
little_number_is bytes enough =
    let read : number_at 8 bytes ≡ Some (little_endian (take 8 bytes), drop 8 bytes) = rw (le-leb 8 (length bytes) enough) refl in
    ap number_read (sym (number_at-some 8 bytes enough) ∙ read)

are_bytes : (bytes : List ℕ) → ((k : ℕ) → get_or bytes k 0 < 256) → AreBytes bytes
are_bytes [] fit = tt
are_bytes (b ∷ bs) fit = (fit 0, are_bytes bs (λ k. fit (suc k)))

are_first : (n : ℕ) (bytes : List ℕ) → AreBytes bytes → AreBytes (take n bytes)
are_first zero bytes are = tt
are_first (suc n) [] are = tt
are_first (suc n) (b ∷ bs) are = (are.0, are_first n bs are.1)

are_later : (n : ℕ) (bytes : List ℕ) → AreBytes bytes → AreBytes (drop n bytes)
are_later zero bytes are = are
are_later (suc n) [] are = tt
are_later (suc n) (b ∷ bs) are = are_later n bs are.1

-- the bits of a word that is read are those of its bytes
bits_of_read : (bytes : List ℕ) → AreBytes bytes → 8 ≤ length bytes → bits_of 64 (little_number 8 bytes) ≡ byte_bits (take 8 bytes)
bits_of_read bytes are enough =
    let all : 64 ≡ 8 * length (take 8 bytes) = omega (arith, length-take-le 8 bytes enough) in
    ap (bits_of 64) (little_number_is bytes enough)
    ∙ ap (λ (m : ℕ). bits_of m (little_endian (take 8 bytes))) all
    ∙ bits_of-little_endian (take 8 bytes) (are_first 8 bytes are)

-- the bits of one word more
pub word_read : (bytes : List ℕ) (i word : ℕ) → ((k : ℕ) → get_or bytes k 0 < 256) → i < length bytes / 8
    → word ≡ little_number 8 (take (length bytes - 8 * i) (drop (8 * i) bytes))
    → byte_bits (take (8 * i) bytes) ++ (bits_of 64 word ++ []) ≡ byte_bits (take (8 * (i + 1)) bytes)
word_read bytes i word fit here read =
    let rest = drop (8 * i) bytes in
    let next : 8 * i + 8 ≡ 8 * (i + 1) = omega arith in
    let bits : bits_of 64 word ≡ byte_bits (take 8 rest) =
    ap (bits_of 64) (read ∙ ap (little_number 8) (take_rest bytes (8 * i))) ∙ bits_of_read rest (are_later (8 * i) bytes (are_bytes bytes fit)) (omega (arith, length-drop (8 * i) bytes)) in
    let split : take (8 * i) bytes ++ take 8 rest ≡ take (8 * (i + 1)) bytes =
    ap (λ (l : List ℕ). l ++ take 8 rest) (sym (take-take (8 * i) (8 * i + 8) bytes (omega arith)))
    ∙ ap (λ (l : List ℕ). take (8 * i) (take (8 * i + 8) bytes) ++ l) (sym (drop-take (8 * i) 8 bytes))
    ∙ take-append-drop (8 * i) (take (8 * i + 8) bytes)
    ∙ ap (λ (m : ℕ). take m bytes) next in
    ap (λ (l : List Bool). byte_bits (take (8 * i) bytes) ++ l) (append-nil (bits_of 64 word) ∙ bits)
    ∙ sym (flat_map-append (bits_of 8) (take (8 * i) bytes) (take 8 rest))
    ∙ ap byte_bits split

-- whether the bits after the last document are 0, by the last word
pub unused_as_read : (n word : ℕ) (bytes : List ℕ) → ((k : ℕ) → get_or bytes k 0 < 256) → length bytes ≡ 8 * num_words n → n % 64 ≢ 0 → word < 2 ^ 64
    → word ≡ little_number 8 (take (length bytes - (length bytes - 8)) (drop (length bytes - 8) bytes))
    → nat_eq (word / 2 ^ (n % 64)) 0 ≡ list_all not (drop n (byte_bits bytes))
unfolding num_words
unused_as_read n word bytes fit size some fits read =
    let m = length bytes - 8 in
    let r = n % 64 in
    let last = drop m bytes in
    let eight : length last ≡ 8 = omega (arith, length-drop m bytes) in
    let bits : bits_of 64 word ≡ byte_bits last =
    ap (bits_of 64) (read ∙ ap (little_number 8) (take_rest bytes m)) ∙ bits_of_read last (are_later m bytes (are_bytes bytes fit)) (omega arith) ∙ ap byte_bits (take_all 8 last (omega arith)) in
    let split : byte_bits bytes ≡ byte_bits (take m bytes) ++ byte_bits last = ap byte_bits (sym (take-append-drop m bytes)) ∙ flat_map-append (bits_of 8) (take m bytes) last in
    let before : length (byte_bits (take m bytes)) ≡ 8 * m = length-bits_in 8 (take m bytes) ∙ ap (λ (k : ℕ). 8 * k) (length-take-le m bytes (omega arith)) in
    let place : n ≡ 8 * m + r = omega arith in
    let dropped : drop n (byte_bits bytes) ≡ bits_of (64 - r) (word / 2 ^ r) =
    ap (λ (k : ℕ). drop k (byte_bits bytes)) place
    ∙ sym (drop-drop r (8 * m) (byte_bits bytes))
    ∙ ap (λ (l : List Bool). drop r (drop (8 * m) l)) split
    ∙ ap (drop r) (drop_at (byte_bits (take m bytes)) (byte_bits last) (8 * m) before)
    ∙ ap (drop r) (sym bits)
    ∙ drop-bits_of r 64 word (omega arith) in
    let whole : 64 - r + r ≡ 64 = omega arith in
    let below : word < 2 ^ (64 - r + r) = rw whole fits in
    sym (ap (list_all not) dropped ∙ none-bits_of (64 - r) (word / 2 ^ r) (shr_below word (64 - r) r below))

pub unused_where_full : (n : ℕ) (bytes : List ℕ) → length bytes ≡ 8 * num_words n → n % 64 ≡ 0 → true ≡ list_all not (drop n (byte_bits bytes))
unfolding num_words
unused_where_full n bytes size full = sym (ap (list_all not) (drop_all n (byte_bits bytes) (omega (arith, length-bits_in 8 bytes))))

-- words all of whose bits are 1
bits_of_full : (count : ℕ) → word_bits (replicate count (2 ^ 64 - 1)) ≡ replicate (64 * count) true
bits_of_full zero = refl
bits_of_full (suc count) =
    let more : 64 + 64 * count ≡ 64 * suc count = omega arith in
    ap (λ (l : List Bool). l ++ word_bits (replicate count (2 ^ 64 - 1))) (bits_of-ones 64)
    ∙ ap (λ (l : List Bool). replicate 64 true ++ l) (bits_of_full count)
    ∙ replicate-append-replicate 64 (64 * count) true
    ∙ ap (λ (m : ℕ). replicate m true) more

-- What words are in which all documents are alive.
pub record AreFullWords (n : ℕ) (words : List ℕ) : Type 0 where
  pub are : AreAliveWords n words
  pub alive : take n (word_bits words) ≡ replicate n true

pub full_where_even : (n : ℕ) (words : List ℕ) → n % 64 ≡ 0 → words ≡ replicate (n / 64) (2 ^ 64 - 1) → AreFullWords n words
unfolding num_words
full_where_even n words even are =
    let bits : word_bits words ≡ replicate n true = ap word_bits are ∙ bits_of_full (n / 64) ∙ ap (λ (m : ℕ). replicate m true) (let all : 64 * (n / 64) ≡ n = omega arith in all) in
    let count : length words ≡ n / 64 = ap length are ∙ length-replicate (n / 64) (2 ^ 64 - 1) in
    record {
      are = record {
        size = omega arith;
        unused = ap (λ (l : List Bool). list_all not (drop n l)) bits ∙ ap (list_all not) (drop_all n (replicate n true) (omega (arith, length-replicate n true)));
      };
      alive = ap (take n) bits ∙ take_all n (replicate n true) (omega (arith, length-replicate n true));
    }

pub full_with_rest : (n : ℕ) (words : List ℕ) → n % 64 ≢ 0 → words ≡ replicate (n / 64) (2 ^ 64 - 1) ++ (1 * 2 ^ (n % 64) % 2 ^ 64 - 1) ∷ [] → AreFullWords n words
unfolding num_words
full_with_rest n words some are =
    let q = n / 64 in
    let r = n % 64 in
    let last = 1 * 2 ^ r % 2 ^ 64 - 1 in
    let zeros = replicate (64 - r) false in
    let value : last ≡ 2 ^ r - 1 = ap (λ (m : ℕ). m - 1) (one_shl r 64 (omega arith)) in
    let whole : 64 ≡ r + (64 - r) = omega arith in
    let above : (2 ^ r - 1) / 2 ^ r ≡ 0 = div-eq_of_lt {n = 2 ^ r - 1} {m = 2 ^ r} (omega (arith, pow_pos r)) in
    let last_bits : bits_of 64 last ≡ replicate r true ++ zeros =
    ap (bits_of 64) value
    ∙ ap (λ (m : ℕ). bits_of m (2 ^ r - 1)) whole
    ∙ bits_of-add r (64 - r) (2 ^ r - 1)
    ∙ ap (λ (l : List Bool). l ++ bits_of (64 - r) ((2 ^ r - 1) / 2 ^ r)) (bits_of-ones r)
    ∙ ap (λ (m : ℕ). replicate r true ++ bits_of (64 - r) m) above
    ∙ ap (λ (l : List Bool). replicate r true ++ l) (bits_of-zero (64 - r)) in
    let docs : 64 * q + r ≡ n = omega arith in
    let bits : word_bits words ≡ replicate n true ++ zeros =
    ap word_bits are
    ∙ flat_map-append (bits_of 64) (replicate q (2 ^ 64 - 1)) (last ∷ [])
    ∙ ap (λ (l : List Bool). l ++ (bits_of 64 last ++ [])) (bits_of_full q)
    ∙ ap (λ (l : List Bool). replicate (64 * q) true ++ l) (append-nil (bits_of 64 last) ∙ last_bits)
    ∙ sym (append_assoc (replicate (64 * q) true) (replicate r true) zeros)
    ∙ ap (λ (l : List Bool). l ++ zeros) (replicate-append-replicate (64 * q) r true ∙ ap (λ (m : ℕ). replicate m true) docs) in
    let count : length words ≡ q + 1 = ap length are ∙ length_push (replicate q (2 ^ 64 - 1)) last ∙ ap (λ (m : ℕ). m + 1) (length-replicate q (2 ^ 64 - 1)) in
    record {
      are = record {
        size = omega arith;
        unused = ap (λ (l : List Bool). list_all not (drop n l)) bits ∙ ap (list_all not) (drop_at (replicate n true) zeros n (length-replicate n true)) ∙ none_of_replicate (64 - r);
      };
      alive = ap (take n) bits ∙ take_at (replicate n true) zeros n (length-replicate n true);
    }
