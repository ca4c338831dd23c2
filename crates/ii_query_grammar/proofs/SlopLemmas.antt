-- The slop of a phrase, as a number that is read and written.
use Rattle.std.proofs.Common.{◌≡◌, ◌∙◌, ap, decimal, ℕ, suc, ◌<◌, ◌^◌, Bool, true, false, ◌&&◌, ◌||◌, ◌==◌, not, nat_lt, List, [], ◌∷◌, ◌++◌, length, None, Some, Result, Ok, Err, cond, drop, take, refl, arith}
use Rattle.std.specs.Char.{is_ascii_digit}
use Rattle.std.specs.Result.{OkIff, result_ok}
use Rattle.std.specs.Str.{all_ascii_digits}
use Rattle.std.specs.Str.Parse.{IsNumeral, ParsesUnsigned, digits_value, without_leading_plus}
use Rattle.std.proofs.lemmas.Bool.{lt-ltb, ltb-true, and_parts}
use Rattle.std.proofs.lemmas.Fmt.{decimal_is_IsNumeral}
use Rattle.std.proofs.lemmas.List.{drop_at, take_at}
use Rattle.std.proofs.lemmas.Str.Parse.{IsNumeralModel, numerals_by_value, tells_all_ascii_digits}
use Rattle.ii_query_grammar.specs.declared.cut.Stop.TheVariants as stops
use Rattle.ii_query_grammar.specs.Lexemes.{before_stop, begins, ends_word, from_stop, is_empty, is_space, place_of, slop_of}
use Rattle.ii_query_grammar.proofs.CutLemmas.{place_case}
use Rattle.ii_query_grammar.proofs.EscapeLemmas.{differs}

digits : IsNumeralModel (λ (ds : List ℕ). all_ascii_digits ds ≡ true) (digits_value 10)
digits = numerals_by_value (λ (ds : List ℕ). all_ascii_digits ds ≡ true) tells_all_ascii_digits

-- without a plus, these are the digits
no_plus : (text : List ℕ) → begins 43 text ≡ false → without_leading_plus text ≡ text
no_plus [] none = refl
no_plus (b ∷ bs) none = ap (λ (plus : Bool). drop (cond plus 1 0) (b ∷ bs)) none

-- whether digits are those of a slop
abbrev is_slop : List ℕ → Bool
is_slop ds = not (is_empty ds) && all_ascii_digits ds && nat_lt (digits_value 10 ds) 4294967296

-- Digits are those of a number of 32 bits.
abbrev IsSmall : List ℕ → Type 0
IsSmall ds = IsNumeral 10 ds × (digits_value 10 ds < 2 ^ 32)

to_slop : (ds : List ℕ) → IsSmall ds → is_slop ds ≡ true
to_slop [] ((some, all), small) = absurd (omega (arith, some))
to_slop (d ∷ ds) ((some, all), small) = rw (digits.from (d ∷ ds) all, lt-ltb (digits_value 10 (d ∷ ds)) 4294967296 small) refl

from_slop : (ds : List ℕ) → is_slop ds ≡ true → IsSmall ds
from_slop [] is = absurd (cc)
from_slop (d ∷ ds) is = let parts = and_parts (all_ascii_digits (d ∷ ds)) (nat_lt (digits_value 10 (d ∷ ds)) 4294967296) is in ((omega arith, digits.to (d ∷ ds) parts.0), ltb-true (digits_value 10 (d ∷ ds)) 4294967296 parts.1)

-- a result that is Ok exactly under a test
by_test : {E : Type 0} (r : Result ℕ E) (P : Type 0) (test : Bool) (n : ℕ) → (P → test ≡ true) → (test ≡ true → P) → OkIff r P n → result_ok r ≡ cond test (Some n) None
by_test (Ok x) P test n to from h = rw (to h.0, h.1) refl
by_test (Err e) P true n to from h = absurd (h (from refl))
by_test (Err e) P false n to from h = refl

-- a slop that is read
pub parsed_slop : {E : Type 0} (text : List ℕ) (r : Result ℕ E) → begins 43 text ≡ false → ParsesUnsigned 32 10 text r → result_ok r ≡ slop_of text
parsed_slop text r none parses =
    let reads = rw (no_plus text none) at parses in
    by_test r (IsSmall text) (is_slop text) (digits_value 10 text) (to_slop text) (from_slop text) reads

-- a slop that is written is read back
pub slop_of_decimal : (n : ℕ) → n < 4294967296 → slop_of (decimal n) ≡ Some n
slop_of_decimal n low =
    let (is, value) = decimal_is_IsNumeral n (omega (arith, low)) in
    rw (to_slop (decimal n) (is, rw value low), value) refl

-- a byte that is no digit differs from one that is
no_digit : (d c : ℕ) → is_ascii_digit d ≡ true → is_ascii_digit c ≡ false → (d == c) ≡ false
no_digit d c is other = differs (λ (b : ℕ). not (is_ascii_digit b)) d c (rw is refl) (rw other refl)

or_fails : (a c : Bool) → a ≡ false → c ≡ false → (a || c) ≡ false
or_fails a c first last = rw (first, last) refl

-- a digit ends no word
digit_goes_on : (d : ℕ) → is_ascii_digit d ≡ true → ends_word d ≡ false
digit_goes_on d is =
    or_fails _ (d == 123) (or_fails _ (d == 91) (or_fails _ (d == 94) (or_fails _ (d == 126) (or_fails _ (d == 63) (or_fails _ (d == 42) (or_fails _ (d == 58) (or_fails _ (d == 41)
    (or_fails _ (d == 40) (or_fails (is_space d) (d == 34)
    (or_fails _ (d == 13) (or_fails _ (d == 10) (or_fails (d == 32) (d == 9) (no_digit d 32 is refl) (no_digit d 9 is refl)) (no_digit d 10 is refl)) (no_digit d 13 is refl))
    (no_digit d 34 is refl)) (no_digit d 40 is refl)) (no_digit d 41 is refl)) (no_digit d 58 is refl)) (no_digit d 42 is refl)) (no_digit d 63 is refl)) (no_digit d 126 is refl)) (no_digit d 94 is refl)) (no_digit d 91 is refl)) (no_digit d 123 is refl)

-- a word of digits ends where they do
digits_end : (ds rest : List ℕ) → all_ascii_digits ds ≡ true → place_of stops.WordEnd false rest ≡ 0 → place_of stops.WordEnd false (ds ++ rest) ≡ length ds
digits_end [] rest all stop = stop
digits_end (d ∷ ds) rest all stop =
    let parts = and_parts (is_ascii_digit d) (all_ascii_digits ds) all in
    place_case stops.WordEnd false d (ds ++ rest) false (rw (digit_goes_on d parts.0) refl)
    ∙ ap (λ (after : Bool). suc (place_of stops.WordEnd after (ds ++ rest))) (no_digit d 92 parts.0 refl)
    ∙ ap suc (digits_end ds rest parts.1 stop)

-- Where the digits of a slop end.
pub record IsSlopCut (n : ℕ) (rest : List ℕ) : Type 0 where
  pub before : before_stop stops.WordEnd (decimal n ++ rest) ≡ decimal n
  pub after : from_stop stops.WordEnd (decimal n ++ rest) ≡ rest

pub slop_cut : (n : ℕ) (rest : List ℕ) → n < 4294967296 → place_of stops.WordEnd false rest ≡ 0 → IsSlopCut n rest
slop_cut n rest low stop =
    let is = decimal_is_IsNumeral n (omega (arith, low)) in
    let place = digits_end (decimal n) rest (digits.from (decimal n) is.0.1) stop in
    record {
      before = ap (λ (k : ℕ). take k (decimal n ++ rest)) place ∙ take_at (decimal n) rest _ refl;
      after = ap (λ (k : ℕ). drop k (decimal n ++ rest)) place ∙ drop_at (decimal n) rest _ refl;
    }
