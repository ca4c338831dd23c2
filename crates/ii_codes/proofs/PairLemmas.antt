-- Laws of packing by pairs of neighbors.
use Rattle.std.proofs.Common.{◌≡◌, ℕ, zero, suc, ◌+◌, ◌*◌, ◌/◌, ◌%◌, ◌^◌, ◌<◌, ◌≤◌, List, [], ◌∷◌, ◌++◌, length, take, get_or, refl, sym, ap, ◌∙◌, arith, append_assoc, append-nil}
use Rattle.std.proofs.Math.Nat.{mod-eq_of_lt, mul-le-mul_right, pow-suc, suc-mul}
use Rattle.std.proofs.Math.Pow.{pow_mono}
use Rattle.std.proofs.lemmas.Nat.{shl_whole, pow-add}
use Rattle.std.proofs.lemmas.List.{take-take}
use Rattle.std.specs.Int.{byte_at, bytes_low_first}
use Rattle.ii_codes.specs.Packed.{bits_in, entries_in}
use Rattle.ii_codes.proofs.PackedLemmas.{bits_in-lt, entries_in-more, length-entries_in}
use Rattle.ii_codes.proofs.PackLemmas.{entry_bits, word_byte}
use Rattle.ii_codes.proofs.WindowLemmas.{bits_in-split}

-- two numbers of w bits make one of twice as many
two_fit : (w x y : ℕ) → x < 2 ^ w → y < 2 ^ w → x + 2 ^ w * y < 2 ^ (2 * w)
two_fit w x y first second =
    let rows : suc y * 2 ^ w ≤ 2 ^ w * 2 ^ w = mul-le-mul_right (2 ^ w) second in
    let twice : 2 * w ≡ w + w = omega arith in
    rw (twice, pow-add 2 w w) (omega (arith, rows, suc-mul y (2 ^ w)))

lane : (w x y : ℕ) → w ≤ 16 → x < 2 ^ w → y < 2 ^ w → (x + y * (1 * 2 ^ w % 4294967296) % 4294967296) % 4294967296 ≡ x + 2 ^ w * y
lane w x y narrow first second =
    let one : 1 * 2 ^ w % 4294967296 ≡ 1 * 2 ^ w = shl_whole 1 1 w 32 (omega arith) (omega arith) in
    let plain : 1 * 2 ^ w ≡ 2 ^ w = omega arith in
    let moved : y * 2 ^ w % 4294967296 ≡ y * 2 ^ w = shl_whole y w w 32 second (omega arith) in
    let order : x + y * 2 ^ w ≡ x + 2 ^ w * y = omega arith in
    let fits = two_fit w x y first second in
    let wide : 2 ^ (2 * w) ≤ 4294967296 = pow_mono {i = 2 * w} {j = 32} (omega arith) in
    rw (one, plain, moved, order) (mod-eq_of_lt (omega arith))

pub four_same : (a b c d : ℕ) {a' b' c' d' : ℕ} → a ≡ a' → b ≡ b' → c ≡ c' → d ≡ d' → a ∷ b ∷ c ∷ d ∷ [] ≡ a' ∷ b' ∷ c' ∷ d' ∷ []
four_same a b c d p q r s = rw (p, q, r, s) refl

-- the lanes of pairs
pub pairs_of : (w : ℕ) (low high : List ℕ) → w ≤ 16 → ((k : ℕ) → k < 4 → get_or low k 0 < 2 ^ w) → ((k : ℕ) → k < 4 → get_or high k 0 < 2 ^ w)
    → (get_or low 0 0 + get_or low 1 0 * (1 * 2 ^ w % 4294967296) % 4294967296) % 4294967296 ∷ (get_or low 2 0 + get_or low 3 0 * (1 * 2 ^ w % 4294967296) % 4294967296) % 4294967296 ∷ (get_or high 0 0 + get_or high 1 0 * (1 * 2 ^ w % 4294967296) % 4294967296) % 4294967296 ∷ (get_or high 2 0 + get_or high 3 0 * (1 * 2 ^ w % 4294967296) % 4294967296) % 4294967296 ∷ []
    ≡ (get_or low 0 0 + 2 ^ w * get_or low 1 0) ∷ (get_or low 2 0 + 2 ^ w * get_or low 3 0) ∷ (get_or high 0 0 + 2 ^ w * get_or high 1 0) ∷ (get_or high 2 0 + 2 ^ w * get_or high 3 0) ∷ []
pairs_of w low high narrow l h =
    four_same _ _ _ _ (lane w _ _ narrow (l 0 (omega arith)) (l 1 (omega arith))) (lane w _ _ narrow (l 2 (omega arith)) (l 3 (omega arith))) (lane w _ _ narrow (h 0 (omega arith)) (h 1 (omega arith))) (lane w _ _ narrow (h 2 (omega arith)) (h 3 (omega arith)))

four_each : (n a b c d : ℕ) → a < n → b < n → c < n → d < n → (k : ℕ) → k < 4 → get_or (a ∷ b ∷ c ∷ d ∷ []) k 0 < n
four_each n a b c d fa fb fc fd zero h = fa
four_each n a b c d fa fb fc fd (suc zero) h = fb
four_each n a b c d fa fb fc fd (suc (suc zero)) h = fc
four_each n a b c d fa fb fc fd (suc (suc (suc zero))) h = fd
four_each n a b c d fa fb fc fd (suc (suc (suc (suc k)))) h = absurd (omega arith)

pub pairs_fit : (w : ℕ) (low high all : List ℕ) → ((k : ℕ) → k < 4 → get_or low k 0 < 2 ^ w) → ((k : ℕ) → k < 4 → get_or high k 0 < 2 ^ w)
    → all ≡ (get_or low 0 0 + 2 ^ w * get_or low 1 0) ∷ (get_or low 2 0 + 2 ^ w * get_or low 3 0) ∷ (get_or high 0 0 + 2 ^ w * get_or high 1 0) ∷ (get_or high 2 0 + 2 ^ w * get_or high 3 0) ∷ []
    → (k : ℕ) → k < 4 → get_or all k 0 < 2 ^ (2 * w)
pairs_fit w low high all l h e =
    rw e (four_each (2 ^ (2 * w)) _ _ _ _ (two_fit w _ _ (l 0 (omega arith)) (l 1 (omega arith))) (two_fit w _ _ (l 2 (omega arith)) (l 3 (omega arith))) (two_fit w _ _ (h 0 (omega arith)) (h 1 (omega arith))) (two_fit w _ _ (h 2 (omega arith)) (h 3 (omega arith))))

-- four entries that fit, from a place on
pub four_fit : (w place : ℕ) (row four : List ℕ) → ((k : ℕ) → k < 128 → get_or row k 0 < 2 ^ w) → place + 4 ≤ 128
    → four ≡ get_or row place 0 ∷ get_or row (place + 1) 0 ∷ get_or row (place + 2) 0 ∷ get_or row (place + 3) 0 ∷ [] → (k : ℕ) → k < 4 → get_or four k 0 < 2 ^ w
four_fit w place row four fits within e =
    rw e (four_each (2 ^ w) _ _ _ _ (fits place (omega arith)) (fits (place + 1) (omega arith)) (fits (place + 2) (omega arith)) (fits (place + 3) (omega arith)))

entry : (w : ℕ) (row : List ℕ) (k : ℕ) → get_or row k 0 < 2 ^ w → get_or row k 0 ≡ bits_in w row (k * w) w
entry w row k fits = sym (mod-eq_of_lt fits) ∙ entry_bits w row k

pair_bits : (w : ℕ) (row : List ℕ) (k next : ℕ) → next ≡ k + 1 → get_or row k 0 < 2 ^ w → get_or row next 0 < 2 ^ w → get_or row k 0 + 2 ^ w * get_or row next 0 ≡ bits_in w row (k * w) (2 * w)
pair_bits w row k next e first second =
    let twice : 2 * w ≡ w + w = omega arith in
    let place : k * w + w ≡ next * w = rw e (omega arith) in
    let split = rw place at (bits_in-split w row (k * w) w w) in
    rw (twice, split, entry w row k first, entry w row next second) refl

-- four entries as one number
pub quad_bits : (w m k : ℕ) (row : List ℕ) → ((j : ℕ) → j < m → get_or row j 0 < 2 ^ w) → k + 4 ≤ m
    → get_or row k 0 + 2 ^ w * get_or row (k + 1) 0 + 2 ^ (2 * w) * (get_or row (k + 2) 0 + 2 ^ w * get_or row (k + 3) 0) ≡ bits_in w row (k * w) (4 * w)
quad_bits w m k row fits within =
    let low = pair_bits w row k (k + 1) refl (fits k (omega arith)) (fits (k + 1) (omega arith)) in
    let high = pair_bits w row (k + 2) (k + 3) (omega arith) (fits (k + 2) (omega arith)) (fits (k + 3) (omega arith)) in
    let four : 4 * w ≡ 2 * w + 2 * w = omega arith in
    let place : k * w + 2 * w ≡ (k + 2) * w = omega arith in
    let split = rw place at (bits_in-split w row (k * w) (2 * w) (2 * w)) in
    rw (low, high, four, split) refl

-- sixteen entries as four numbers
pub quads_of : (w first : ℕ) (row a b c d low high : List ℕ) → ((k : ℕ) → k < 128 → get_or row k 0 < 2 ^ w) → first + 16 ≤ 128
    → a ≡ get_or row first 0 ∷ get_or row (first + 1) 0 ∷ get_or row (first + 2) 0 ∷ get_or row (first + 3) 0 ∷ []
    → b ≡ get_or row (first + 4) 0 ∷ get_or row (first + 4 + 1) 0 ∷ get_or row (first + 4 + 2) 0 ∷ get_or row (first + 4 + 3) 0 ∷ []
    → c ≡ get_or row (first + 8) 0 ∷ get_or row (first + 8 + 1) 0 ∷ get_or row (first + 8 + 2) 0 ∷ get_or row (first + 8 + 3) 0 ∷ []
    → d ≡ get_or row (first + 12) 0 ∷ get_or row (first + 12 + 1) 0 ∷ get_or row (first + 12 + 2) 0 ∷ get_or row (first + 12 + 3) 0 ∷ []
    → low ≡ (get_or a 0 0 + 2 ^ w * get_or a 1 0) ∷ (get_or a 2 0 + 2 ^ w * get_or a 3 0) ∷ (get_or b 0 0 + 2 ^ w * get_or b 1 0) ∷ (get_or b 2 0 + 2 ^ w * get_or b 3 0) ∷ []
    → high ≡ (get_or c 0 0 + 2 ^ w * get_or c 1 0) ∷ (get_or c 2 0 + 2 ^ w * get_or c 3 0) ∷ (get_or d 0 0 + 2 ^ w * get_or d 1 0) ∷ (get_or d 2 0 + 2 ^ w * get_or d 3 0) ∷ []
    → (get_or low 0 0 + 2 ^ (2 * w) * get_or low 1 0) ∷ (get_or low 2 0 + 2 ^ (2 * w) * get_or low 3 0) ∷ (get_or high 0 0 + 2 ^ (2 * w) * get_or high 1 0) ∷ (get_or high 2 0 + 2 ^ (2 * w) * get_or high 3 0) ∷ []
    ≡ bits_in w row (first * w) (4 * w) ∷ bits_in w row ((first + 4) * w) (4 * w) ∷ bits_in w row ((first + 8) * w) (4 * w) ∷ bits_in w row ((first + 12) * w) (4 * w) ∷ []
quads_of w first row a b c d low high fits within ea eb ec ed el eh =
    rw (el, eh, ea, eb, ec, ed) (four_same _ _ _ _ (quad_bits w 128 first row fits (omega arith)) (quad_bits w 128 (first + 4) row fits (omega arith)) (quad_bits w 128 (first + 8) row fits (omega arith)) (quad_bits w 128 (first + 12) row fits (omega arith)))

-- eight entries as one number
pub eight_bits : (w k : ℕ) (row : List ℕ) → bits_in w row (k * w) (4 * w) + 2 ^ (4 * w) * bits_in w row ((k + 4) * w) (4 * w) ≡ bits_in w row (k * w) (8 * w)
eight_bits w k row =
    let eight : 8 * w ≡ 4 * w + 4 * w = omega arith in
    let place : k * w + 4 * w ≡ (k + 4) * w = omega arith in
    let split = rw place at (bits_in-split w row (k * w) (4 * w) (4 * w)) in
    rw (eight, split) refl

-- the numbers of sixteen entries, eight in each
pub words_of : (w group : ℕ) (row quads : List ℕ)
    → quads ≡ bits_in w row (16 * group * w) (4 * w) ∷ bits_in w row ((16 * group + 4) * w) (4 * w) ∷ bits_in w row ((16 * group + 8) * w) (4 * w) ∷ bits_in w row ((16 * group + 12) * w) (4 * w) ∷ []
    → (get_or quads 0 0 + 2 ^ (4 * w) * get_or quads 1 0 ≡ bits_in w row (8 * (2 * group) * w) (8 * w)) × (get_or quads 2 0 + 2 ^ (4 * w) * get_or quads 3 0 ≡ bits_in w row (8 * (2 * group + 1) * w) (8 * w))
words_of w group row quads e =
    let first : 8 * (2 * group) ≡ 16 * group = omega arith in
    let second : 8 * (2 * group + 1) ≡ 16 * group + 8 = omega arith in
    let twelve : 16 * group + 8 + 4 ≡ 16 * group + 12 = omega arith in
    (rw (e, first) (eight_bits w (16 * group) row), rw (e, second) (rw twelve at (eight_bits w (16 * group + 8) row)))

pub words_fit : (w a b c d n : ℕ) (row quads : List ℕ) → quads ≡ bits_in w row a n ∷ bits_in w row b n ∷ bits_in w row c n ∷ bits_in w row d n ∷ []
    → (get_or quads 0 0 < 2 ^ n) × (get_or quads 1 0 < 2 ^ n) × (get_or quads 2 0 < 2 ^ n) × (get_or quads 3 0 < 2 ^ n)
words_fit w a b c d n row quads e = rw e (bits_in-lt w row a n, bits_in-lt w row b n, bits_in-lt w row c n, bits_in-lt w row d n)

power_bytes : (i : ℕ) → 256 ^ i ≡ 2 ^ (i * 8)
power_bytes zero = refl
power_bytes (suc i) =
    let next : suc i * 8 ≡ i * 8 + 8 = omega arith in
    rw (pow-suc 256 i, next, pow-add 2 (i * 8) 8, power_bytes i) (omega arith)

byte_is : (i x : ℕ) → byte_at i x ≡ x / 2 ^ (i * 8) % 2 ^ 8
byte_is zero x = omega arith
byte_is (suc i) x = ap (λ (p : ℕ). x / p % 256) (power_bytes (suc i))

first_bytes : (i k n x : ℕ) → n ≤ k → take n (bytes_low_first i k x) ≡ bytes_low_first i n x
first_bytes i k zero x h = refl
first_bytes i zero (suc n) x h = absurd (omega arith)
first_bytes i (suc k) (suc n) x h = ap (λ (r : List ℕ). byte_at i x ∷ r) (first_bytes (suc i) k n x (omega arith))

take_seam : (xs ys : List ℕ) (m n : ℕ) → length xs ≡ m → take (m + n) (xs ++ ys) ≡ xs ++ take n ys
take_seam [] ys zero n e = let none : 0 + n ≡ n = omega arith in rw none refl
take_seam [] ys (suc m) n e = absurd (omega arith)
take_seam (x ∷ xs) ys zero n e = absurd (omega arith)
take_seam (x ∷ xs) ys (suc m) n e =
    let more : suc m + n ≡ suc (m + n) = omega arith in
    rw more (ap (λ (r : List ℕ). x ∷ r) (take_seam xs ys m n (omega arith)))

-- the bytes of a number that the bits of a row make
row_bytes : (w end n x i m : ℕ) (row : List ℕ) → x ≡ bits_in w row (end * 8) n → (i + m) * 8 ≤ n → entries_in w 8 (end + i + m) row ≡ entries_in w 8 (end + i) row ++ bytes_low_first i m x
row_bytes w end n x i zero row e within =
    let none : end + i + 0 ≡ end + i = omega arith in
    rw none (sym (append-nil (entries_in w 8 (end + i) row)))
row_bytes w end n x i (suc m) row e within =
    let there : end + i + suc m ≡ end + suc i + m = omega arith in
    let next : end + suc i ≡ end + i + 1 = omega arith in
    let later = row_bytes w end n x (suc i) m row e (omega arith) in
    let more = entries_in-more w 8 (end + i) row in
    let byte : bits_in w row ((end + i) * 8) 8 ≡ byte_at i x = word_byte w row end n i x e (omega arith) ∙ sym (byte_is i x) in
    rw there (later ∙ rw (next, more, byte) (append_assoc (entries_in w 8 (end + i) row) (byte_at i x ∷ []) (bytes_low_first (suc i) m x)))

-- eight entries more are written
pub eight_written : (w k end after x : ℕ) (entries old new : List ℕ) → end ≡ k * w → after ≡ (k + 1) * w → w ≤ 8 → x ≡ bits_in w entries (8 * k * w) (8 * w) → take end old ≡ entries_in w 8 end entries
    → take (end + 8) new ≡ take end old ++ bytes_low_first 0 8 x → take after new ≡ entries_in w 8 after entries
eight_written w k end after x entries old new e f narrow bits before bytes =
    let place : 8 * k * w ≡ end * 8 = rw e (omega arith) in
    let value : x ≡ bits_in w entries (end * 8) (8 * w) = rw place at bits in
    let further : after ≡ end + w = omega arith in
    let start : end + 0 ≡ end = omega arith in
    let whole : end + 0 + w ≡ end + w = omega arith in
    let all = row_bytes w end (8 * w) x 0 w entries value (omega arith) in
    let plain : entries_in w 8 (end + w) entries ≡ entries_in w 8 end entries ++ bytes_low_first 0 w x = rw (whole, start) at all in
    let cut : take (end + w) (take (end + 8) new) ≡ take (end + w) new = take-take (end + w) (end + 8) new (omega arith) in
    let size = length-entries_in w 8 end entries in
    let inside : take (end + w) (entries_in w 8 end entries ++ bytes_low_first 0 8 x) ≡ entries_in w 8 end entries ++ take w (bytes_low_first 0 8 x) = take_seam (entries_in w 8 end entries) (bytes_low_first 0 8 x) end w size in
    rw further (sym cut ∙ ap (take (end + w)) (bytes ∙ ap (λ (xs : List ℕ). xs ++ bytes_low_first 0 8 x) before) ∙ inside ∙ ap (λ (xs : List ℕ). entries_in w 8 end entries ++ xs) (first_bytes 0 8 w x narrow) ∙ sym plain)
