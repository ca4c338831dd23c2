-- Laws of packing by words of 32 bits.
use Rattle.std.proofs.Common.{◌≡◌, ℕ, ◌+◌, ◌-◌, ◌*◌, ◌/◌, ◌%◌, ◌^◌, ◌<◌, ◌≤◌, List, [], ◌∷◌, ◌++◌, take, get_or, refl, sym, ap, ◌∙◌, arith}
use Rattle.std.proofs.Math.Nat.{mod-lt}
use Rattle.std.proofs.Math.Pow.{pow_mono}
use Rattle.std.proofs.lemmas.Nat.{div-add-mod', shl_whole, pow_pos}
use Rattle.std.proofs.lemmas.Nat.Bits.{bit_at_cat_low}
use Rattle.std.specs.Int.{bytes_low_first}
use Rattle.ii_codes.specs.Packed.{bits_in, entries_in, IsPackedUpTo}
use Rattle.ii_codes.proofs.PackedLemmas.{bits_in-zero, bits_in-lt, same_as_bits_in, bit_in_at, entries_in-more}
use Rattle.ii_codes.proofs.WindowLemmas.{bits_in-split, window_cut, window_rest}

-- an entry is its w lowest bits
pub entry_bits : (w : ℕ) (row : List ℕ) (k : ℕ) → get_or row k 0 % 2 ^ w ≡ bits_in w row (k * w) w
entry_bits w row k =
    let whole = div-add-mod' (get_or row k 0) (2 ^ w) in
    same_as_bits_in w row (k * w) w (get_or row k 0 % 2 ^ w) (mod-lt (get_or row k 0) (pow_pos w))
    (λ i small.
    let low = bit_at_cat_low (get_or row k 0 / 2 ^ w) w (get_or row k 0 % 2 ^ w) i small in
    let same = rw whole at low in
    sym same ∙ sym (bit_in_at w k i row small))

-- The same with the place in the bytes, and the number of bits in the word.
record IsPacking (w k end word bits : ℕ) (entries out : List ℕ) : Type 0 where
  pub place : end * 8 + bits ≡ k * w
  pub few : bits < 32
  pub left : word ≡ bits_in w entries (end * 8) bits
  pub written : take end out ≡ entries_in w 8 end entries
  pub whole : end % 4 ≡ 0

-- one entry more in the word
word_more : (w k end word bits e x : ℕ) (entries : List ℕ) → end * 8 + bits ≡ k * w → bits < 32 → word ≡ bits_in w entries (end * 8) bits → w ≤ 32 → e ≡ get_or entries k 0 → x ≡ e % (1 * 2 ^ w % 2 ^ 64) * 2 ^ bits % 2 ^ 64
    → (word + x ≡ bits_in w entries (end * 8) (bits + w)) × (word + x < 2 ^ 64)
word_more w k end word bits e x entries here few stands narrow entry shifted =
    let one : 1 * 2 ^ w % 2 ^ 64 ≡ 1 * 2 ^ w = shl_whole 1 1 w 64 (omega arith) (omega arith) in
    let power : 1 * 2 ^ w ≡ 2 ^ w = omega arith in
    let low : get_or entries k 0 % 2 ^ w < 2 ^ w = mod-lt (get_or entries k 0) (pow_pos w) in
    let moved = shl_whole (get_or entries k 0 % 2 ^ w) w bits 64 low (omega arith) in
    let added = rw (one, power, entry, moved, entry_bits w entries k, ← here) at shifted in
    let split = bits_in-split w entries (end * 8) bits w in
    let sum : word + x ≡ bits_in w entries (end * 8) (bits + w) = rw (split, added, stands) (omega arith) in
    let fits = bits_in-lt w entries (end * 8) (bits + w) in
    let wide = pow_mono {i = bits + w} {j = 64} (omega arith) in
    (sum, rw sum (omega arith))

-- byte j of the bits of a word
pub word_byte : (w : ℕ) (row : List ℕ) (end n j x : ℕ) → x ≡ bits_in w row (end * 8) n → j * 8 + 8 ≤ n → bits_in w row ((end + j) * 8) 8 ≡ x / 2 ^ (j * 8) % 2 ^ 8
word_byte w row end n j x e within =
    let place : (end + j) * 8 ≡ end * 8 + j * 8 = omega arith in
    rw place (sym (window_cut w row (end * 8) n (j * 8) 8 x e within))

four_append : (xs : List ℕ) (a b c d : ℕ) → (((xs ++ a ∷ []) ++ b ∷ []) ++ c ∷ []) ++ d ∷ [] ≡ xs ++ a ∷ b ∷ c ∷ d ∷ []
four_append [] a b c d = refl
four_append (x ∷ xs) a b c d = ap (λ (ys : List ℕ). x ∷ ys) (four_append xs a b c d)

-- the four bytes of a word
four_entries : (w end : ℕ) (row : List ℕ) → entries_in w 8 (end + 4) row ≡ entries_in w 8 end row ++ bits_in w row (end * 8) 8 ∷ bits_in w row ((end + 1) * 8) 8 ∷ bits_in w row ((end + 2) * 8) 8 ∷ bits_in w row ((end + 3) * 8) 8 ∷ []
four_entries w end row =
    let e0 = entries_in-more w 8 end row in
    let two : end + 2 ≡ end + 1 + 1 = omega arith in
    let e1 : entries_in w 8 (end + 2) row ≡ entries_in w 8 (end + 1) row ++ bits_in w row ((end + 1) * 8) 8 ∷ [] = rw two (entries_in-more w 8 (end + 1) row) in
    let three : end + 3 ≡ end + 2 + 1 = omega arith in
    let e2 : entries_in w 8 (end + 3) row ≡ entries_in w 8 (end + 2) row ++ bits_in w row ((end + 2) * 8) 8 ∷ [] = rw three (entries_in-more w 8 (end + 2) row) in
    let four : end + 4 ≡ end + 3 + 1 = omega arith in
    let e3 : entries_in w 8 (end + 4) row ≡ entries_in w 8 (end + 3) row ++ bits_in w row ((end + 3) * 8) 8 ∷ [] = rw four (entries_in-more w 8 (end + 3) row) in
    rw (e3, e2, e1, e0) (four_append (entries_in w 8 end row) _ _ _ _)

four_bytes : (w : ℕ) (row : List ℕ) (end n x : ℕ) → x ≡ bits_in w row (end * 8) n → 32 ≤ n → entries_in w 8 (end + 4) row ≡ entries_in w 8 end row ++ bytes_low_first 0 4 (x % 2 ^ 32)
four_bytes w row end n x e within =
    let here : end * 8 + 0 ≡ end * 8 = omega arith in
    let b0 : bits_in w row (end * 8) 8 ≡ x % 2 ^ 32 % 256 = sym (rw here at (window_cut w row (end * 8) n 0 8 x e (omega arith))) ∙ omega arith in
    let b1 : bits_in w row ((end + 1) * 8) 8 ≡ x % 2 ^ 32 / 256 % 256 = word_byte w row end n 1 x e (omega arith) ∙ omega arith in
    let b2 : bits_in w row ((end + 2) * 8) 8 ≡ x % 2 ^ 32 / 65536 % 256 = word_byte w row end n 2 x e (omega arith) ∙ omega arith in
    let b3 : bits_in w row ((end + 3) * 8) 8 ≡ x % 2 ^ 32 / 16777216 % 256 = word_byte w row end n 3 x e (omega arith) ∙ omega arith in
    rw (four_entries w end row, b0, b1, b2, b3) refl

-- a word of 32 bits is written
word_written : (w k end bits x : ℕ) (entries old new : List ℕ) → end * 8 + bits ≡ k * w → bits < 32 → end % 4 ≡ 0 → take end old ≡ entries_in w 8 end entries → w ≤ 32 → x ≡ bits_in w entries (end * 8) (bits + w)
    → 32 ≤ bits + w → take (end + 4) new ≡ take end old ++ bytes_low_first 0 4 (x % 2 ^ 32) → IsPacking w (k + 1) (end + 4) (x / 2 ^ 32) (bits + w - 32) entries new
word_written w k end bits x entries old new here few quarter written narrow e full bytes =
    let next : (end + 4) * 8 ≡ end * 8 + 32 = omega arith in
    let row : (k + 1) * w ≡ k * w + w = omega arith in
    record {
      place = rw row (omega arith);
      few = omega arith;
      left = rw next (window_rest w entries (end * 8) (bits + w) 32 x e full);
      written = bytes ∙ ap (λ (xs : List ℕ). xs ++ bytes_low_first 0 4 (x % 2 ^ 32)) written ∙ sym (four_bytes w entries end (bits + w) x e full);
      whole = omega arith;
    }

-- a word that is not full waits
word_waits : (w k end word bits : ℕ) (entries out : List ℕ) → IsPacking w k end word bits entries out → (x : ℕ) → x ≡ bits_in w entries (end * 8) (bits + w) → bits + w < 32
    → IsPacking w (k + 1) end x (bits + w) entries out
word_waits w k end word bits entries out h x e few =
    let here = h.place in
    let row : (k + 1) * w ≡ k * w + w = omega arith in
    record { place = rw row (omega arith); few = few; left = e; written = h.written; whole = h.whole }

packing : (w g i word : ℕ) (entries out : List ℕ) → IsPackedUpTo w (32 * g + i) word entries out → IsPacking w (32 * g + i) (4 * (g * w + i * w / 32)) word (i * w % 32) entries out
packing w g i word entries out h =
    let quarters : (32 * g + i) * w / 32 ≡ g * w + i * w / 32 = omega arith in
    let part : (32 * g + i) * w % 32 ≡ i * w % 32 = omega arith in
    let end : (g * w + i * w / 32) * 32 ≡ 4 * (g * w + i * w / 32) * 8 = omega arith in
    record {
      place = omega arith;
      few = omega arith;
      left = rw (quarters, part, end) at h.rest;
      written = rw quarters at h.whole;
      whole = omega arith;
    }

packed_up_to : (w k end word bits : ℕ) (entries out : List ℕ) → IsPacking w k end word bits entries out → IsPackedUpTo w k word entries out
packed_up_to w k end word bits entries out h =
    let here = h.place in
    let few = h.few in
    let quarter = h.whole in
    let whole : 4 * (k * w / 32) ≡ end = omega arith in
    let place : k * w / 32 * 32 ≡ end * 8 = omega arith in
    let part : k * w % 32 ≡ bits = omega arith in
    record { whole = rw whole h.written; rest = rw (place, part) h.left }

-- What a packer was asked, and the bits x that it adds to its word.
pub record IsAdding (w g i word e x : ℕ) (entries out : List ℕ) : Type 0 where
  pub before : IsPackedUpTo w (32 * g + i) word entries out
  pub narrow : w ≤ 32
  pub entry : e ≡ get_or entries (32 * g + i) 0
  pub added : x ≡ e % (1 * 2 ^ w % 2 ^ 64) * 2 ^ (i * w % 32) % 2 ^ 64

more_of : (w g i word e x : ℕ) (entries out : List ℕ) → IsAdding w g i word e x entries out → (word + x ≡ bits_in w entries (4 * (g * w + i * w / 32) * 8) (i * w % 32 + w)) × (word + x < 2 ^ 64)
more_of w g i word e x entries out h =
    let p = packing w g i word entries out h.before in
    word_more w (32 * g + i) (4 * (g * w + i * w / 32)) word (i * w % 32) e x entries p.place p.few p.left h.narrow h.entry h.added

pub adding-fits : (w g i word e x : ℕ) (entries out : List ℕ) → IsAdding w g i word e x entries out → word + x < 2 ^ 64
adding-fits w g i word e x entries out h = (more_of w g i word e x entries out h).1

pub adding-waits : (w g i word e x : ℕ) (entries out : List ℕ) → IsAdding w g i word e x entries out → i * w % 32 + w < 32 → IsPackedUpTo w (32 * g + i + 1) (word + x) entries out
adding-waits w g i word e x entries out h few =
    let p = packing w g i word entries out h.before in
    packed_up_to w (32 * g + i + 1) (4 * (g * w + i * w / 32)) (word + x) (i * w % 32 + w) entries out
    (word_waits w (32 * g + i) (4 * (g * w + i * w / 32)) word (i * w % 32) entries out p (word + x) (more_of w g i word e x entries out h).0 few)

pub adding-written : (w g i word e x : ℕ) (entries old new : List ℕ) → IsAdding w g i word e x entries old → 32 ≤ i * w % 32 + w
    → take (4 * (g * w + i * w / 32) + 4) new ≡ take (4 * (g * w + i * w / 32)) old ++ bytes_low_first 0 4 ((word + x) % 2 ^ 32) → IsPackedUpTo w (32 * g + i + 1) ((word + x) / 2 ^ 32) entries new
adding-written w g i word e x entries old new h full bytes =
    let p = packing w g i word entries old h.before in
    packed_up_to w (32 * g + i + 1) (4 * (g * w + i * w / 32) + 4) ((word + x) / 2 ^ 32) (i * w % 32 + w - 32) entries new
    (word_written w (32 * g + i) (4 * (g * w + i * w / 32)) (i * w % 32) (word + x) entries old new p.place p.few p.whole p.written h.narrow (more_of w g i word e x entries old h).0 full bytes)

-- 32 entries start with a complete word
pub packing-starts : (w g : ℕ) (entries out : List ℕ) → take (4 * g * w) out ≡ entries_in w 8 (4 * g * w) entries → IsPackedUpTo w (32 * g + 0) 0 entries out
packing-starts w g entries out h =
    let whole : 4 * ((32 * g + 0) * w / 32) ≡ 4 * g * w = omega arith in
    let none : (32 * g + 0) * w % 32 ≡ 0 = omega arith in
    record { whole = rw whole h; rest = rw none (sym (bits_in-zero w entries ((32 * g + 0) * w / 32 * 32))) }
