-- The offsets of the runs of a text.
use Rattle.std.proofs.Common.{◌≡◌, ℕ, zero, suc, ◌+◌, ◌-◌, ◌<◌, ◌≤◌, Bool, true, false, not, ◌&&◌, ◌||◌, List, [], ◌∷◌, ◌++◌, length, length-drop, drop, get_or, nat_eq, nat_le, refl, ap, arith, ◌∙◌}
use Rattle.std.proofs.Math.Bool.{and-false}
use Rattle.std.specs.List.{prefix_len, range_with_len, slice_index}
use Rattle.std.specs.Str.{IsUtf8, IsCharBoundary}
use Rattle.std.proofs.lemmas.List.{get_or-drop}
use Rattle.std.proofs.lemmas.List.Sums.{prefix_len-le-length, prefix_len_passes, prefix_len_stops}
use Rattle.std.proofs.lemmas.Bool.{and_parts, eq-eqb, ne_eqb, or_parts, leb-false, not-true}
use Rattle.std.proofs.lemmas.Str.{IsCharBoundary-after_ascii, IsCharBoundary-start}
use Rattle.std.proofs.lemmas.List.Folds.{length-prefix_len}
use Rattle.ii_base.specs.AsciiWords.{begins_run, is_run, is_word_at, is_word_byte, run_at, run_word, words_from}

-- a byte of no word is ASCII
pub ascii_between : (b : ℕ) → is_word_byte b ≡ false → b < 128
ascii_between b out = leb-false 128 b (or_parts ((nat_le 48 b && nat_le b 57) || (nat_le 65 b && nat_le b 90) || (nat_le 97 b && nat_le b 122)) (nat_le 128 b) out).1

word_within : (text : List ℕ) (i : ℕ) → is_word_at text i ≡ true → i < length text
word_within [] i word = absurd (cc)
word_within (b ∷ bs) zero word = omega arith
word_within (b ∷ bs) (suc i) word = let rest = word_within bs i word in omega (arith, rest)

-- a run begins inside the text
pub run_within : (text : List ℕ) (i : ℕ) → begins_run text i ≡ true → i < length text
run_within text i begins = word_within text i (and_parts (is_word_at text i) (nat_eq i 0 || not (is_word_at text (i - 1))) begins).0

-- a text may be cut where a run begins
pub cut_before_run : (text : List ℕ) (i : ℕ) → IsUtf8 text → begins_run text i ≡ true → IsCharBoundary text i
cut_before_run text zero utf8 begins = IsCharBoundary-start text utf8
cut_before_run text (suc i) utf8 begins =
    let before : suc i - 1 ≡ i = omega arith in
    let one : i + 1 ≡ suc i = omega arith in
    let parts = and_parts (is_word_at text (suc i)) (nat_eq (suc i) 0 || not (is_word_at text (suc i - 1))) begins in
    let out : not (is_word_at text (suc i - 1)) ≡ true = rw (ne_eqb (suc i) 0 (λ e. omega (arith, e))) at parts.1 in
    let within = run_within text (suc i) begins in
    let low = ascii_between (slice_index text i) (not-true (is_word_at text i) (rw before at out)) in
    rw one at (IsCharBoundary-after_ascii text i utf8 (omega (arith, within)) low)

prefix_ends_by : (p : ℕ → Bool) (x : ℕ) (xs : List ℕ) (b : Bool) → p x ≡ b → prefix_len p (x ∷ xs) < length (x ∷ xs) → (prefix_len p xs < length xs → p (get_or xs (prefix_len p xs) 0) ≡ false) → p (get_or (x ∷ xs) (prefix_len p (x ∷ xs)) 0) ≡ false
prefix_ends_by p x xs true e within rest =
    let one : 1 + prefix_len p xs ≡ suc (prefix_len p xs) = omega arith in
    let less = rw e at within in
    rw (e, one) (rest (omega (arith, less)))
prefix_ends_by p x xs false e within rest = rw e e

prefix_ends : (p : ℕ → Bool) (xs : List ℕ) → prefix_len p xs < length xs → p (get_or xs (prefix_len p xs) 0) ≡ false
prefix_ends p [] within = absurd (omega (arith, within))
prefix_ends p (x ∷ xs) within = prefix_ends_by p x xs (p x) refl within (prefix_ends p xs)

-- and where it ends
pub cut_after_run : (text : List ℕ) (i : ℕ) → i ≤ length text → IsCharBoundary text (i + length (run_at text i))
cut_after_run text i within =
    let n = prefix_len is_word_byte (drop i text) in
    let len = length-prefix_len is_word_byte (drop i text) in
    let bound = prefix_len-le-length is_word_byte (drop i text) in
    let left = length-drop i text in
    rw len (
      omega (arith, bound, left),
      λ less high.
          let ends = prefix_ends is_word_byte (drop i text) (omega (arith, left, less)) in
          let low = ascii_between (slice_index text (i + n)) (rw (get_or-drop i text n 0) at ends) in
          absurd (omega (arith, low, high)),
    )

pub range_more : (a n : ℕ) → range_with_len a (suc n) ≡ range_with_len a n ++ (a + n) ∷ []
range_more a zero = ap (λ (k : ℕ). k ∷ []) (omega arith)
range_more a (suc n) = ap (λ (l : List ℕ). a ∷ l) (range_more (a + 1) n) ∙ ap (λ (k : ℕ). a ∷ (range_with_len (a + 1) n ++ k ∷ [])) (omega arith)

range_step : (text : List ℕ) (i : ℕ) → i < length text → range_with_len i (length text - i) ≡ i ∷ range_with_len (i + 1) (length text - (i + 1))
range_step text i within =
    let left : length text - i ≡ suc (length text - (i + 1)) = omega (arith, within) in
    rw left refl

-- where no run begins, the words go on
pub words_skip : (text : List ℕ) (p i : ℕ) → i < length text → begins_run text i ≡ false → words_from text p (i + 1) ≡ words_from text p i
words_skip text p i within out =
    let step = range_step text i within in
    rw step (rw out refl)

-- past the end there are none
pub words_past : (text : List ℕ) (p i : ℕ) → length text ≤ i → words_from text p i ≡ []
words_past text p i past =
    let none : length text - i ≡ 0 = omega (arith, past) in
    rw none refl

-- where one begins, it is the first of them
pub words_take : (text : List ℕ) (p i : ℕ) → begins_run text i ≡ true → words_from text p i ≡ run_word text p i ∷ words_from text (p + 1) (i + 1)
words_take text p i begins =
    let step = range_step text i (run_within text i begins) in
    rw step (rw begins refl)

skip_run : (text : List ℕ) (p i n : ℕ) → i + n ≤ length text → ((j : ℕ) → i ≤ j → j < i + n → begins_run text j ≡ false) → words_from text p (i + n) ≡ words_from text p i
skip_run text p i zero within out = ap (words_from text p) (omega arith)
skip_run text p i (suc n) within out =
    let last : i + suc n ≡ (i + n) + 1 = omega arith in
    let known = skip_run text p i n (omega (arith, within)) (λ j low high. out j low (omega (arith, high))) in
    let less : i + n < length text = omega (arith, within) in
    ap (words_from text p) last ∙ words_skip text p (i + n) less (out (i + n) (omega arith) (omega arith)) ∙ known

-- no run begins inside another
inside_run : (text : List ℕ) (i j : ℕ) → i < j → j < i + length (run_at text i) → begins_run text j ≡ false
inside_run text i j low high =
    let k = (j - 1) - i in
    let len = length-prefix_len is_word_byte (drop i text) in
    let word = prefix_len_passes is_word_byte (drop i text) k 0 (omega (arith, len, low, high)) in
    let place : i + k ≡ j - 1 = omega (arith, low) in
    let here : is_word_at text (j - 1) ≡ true = rw (← place) (rw (get_or-drop i text k 0) at word) in
    rw (here, ne_eqb j 0 (λ e. omega (arith, e, low))) (and-false (is_word_at text j))

some_by : (text : List ℕ) (i n : ℕ) → prefix_len is_word_byte (drop i text) ≡ n → i < length text → is_word_at text i ≡ true → 0 < n
some_by text i zero e within word =
    let left = length-drop i text in
    let stops = prefix_len_stops is_word_byte (drop i text) 0 (omega (e, arith, left, within)) in
    let none : i + 0 ≡ i = omega arith in
    let out : is_word_at text i ≡ false = rw none at (rw (get_or-drop i text 0 0) at (rw e at stops)) in
    absurd (cc (word, out))
some_by text i (suc n) e within word = omega arith

run_some : (text : List ℕ) (i : ℕ) → begins_run text i ≡ true → 0 < length (run_at text i)
run_some text i begins =
    let len = length-prefix_len is_word_byte (drop i text) in
    let word = (and_parts (is_word_at text i) (nat_eq i 0 || not (is_word_at text (i - 1))) begins).0 in
    let some = some_by text i (prefix_len is_word_byte (drop i text)) refl (run_within text i begins) word in
    omega (arith, len, some)

-- the words after a run are those from its second byte on
pub words_after_run : (text : List ℕ) (p i : ℕ) → begins_run text i ≡ true → i + length (run_at text i) ≤ length text → words_from text p (i + length (run_at text i)) ≡ words_from text p (i + 1)
words_after_run text p i begins within =
    let some = run_some text i begins in
    let n = length (run_at text i) - 1 in
    let end : i + length (run_at text i) ≡ (i + 1) + n = omega (arith, some) in
    ap (words_from text p) end ∙ skip_run text p (i + 1) n (omega (arith, some, within)) (λ j low high. inside_run text i j (omega (arith, low)) (omega (arith, high, some)))

-- the bytes between the start of a run and its end are a run
pub is_run_here : (text : List ℕ) (i n : ℕ) → begins_run text i ≡ true → n ≡ length (run_at text i) → is_run text i (i + n) ≡ true
is_run_here text i n begins len = rw (begins, eq-eqb (i + n) (i + length (run_at text i)) (omega (arith, len))) refl
