-- The result of `parse`, as an option.
use Rattle.std.proofs.Common.{◌≡◌, ◌∙◌, ap, sym, suc, decimal, ℕ, ◌<◌, ◌^◌, Bool, true, false, ◌&&◌, ℤ, pos, negsuc, nat_lt, List, length, Some, Result, Ok, Err, refl, arith, w64, FitsSigned}
use Rattle.std.specs.Result.{OkIff, result_ok}
use Rattle.std.specs.Str.{all_ascii_digits}
use Rattle.std.specs.Str.Parse.{IsNumeral, ParsesSigned, ParsesUnsigned, digits_value, signed_digits_value, without_leading_plus, without_leading_sign}
use Rattle.std.specs.Fmt.{signed_decimal}
use Rattle.std.proofs.lemmas.Bool.{lt-ltb, ltb-true, and_parts}
use Rattle.std.proofs.lemmas.Fmt.{decimal_is_IsNumeral, parse-decimal, parse-signed_decimal}
use Rattle.std.proofs.lemmas.Str.Parse.{IsNumeralModel, numerals_by_value, tells_all_ascii_digits}
use Rattle.ii_base.proofs.ResultLemmas.{ok_where}
use Rattle.ii_json.specs.FastValues.{i64_in, is_i64, is_numeral, u64_in}

digits : IsNumeralModel (λ (ds : List ℕ). all_ascii_digits ds ≡ true) (digits_value 10)
digits = numerals_by_value (λ (ds : List ℕ). all_ascii_digits ds ≡ true) tells_all_ascii_digits

both : (a b : Bool) → a ≡ true → b ≡ true → (a && b) ≡ true
both a b p q = rw (p, q) refl

numeral : (ds : List ℕ) → IsNumeral 10 ds → is_numeral ds ≡ true
numeral ds is = both (nat_lt 0 (length ds)) (all_ascii_digits ds) (lt-ltb 0 (length ds) is.0) (digits.from ds is.1)

from_numeral : (ds : List ℕ) → is_numeral ds ≡ true → IsNumeral 10 ds
from_numeral ds is = let p = and_parts (nat_lt 0 (length ds)) (all_ascii_digits ds) is in (ltb-true 0 (length ds) p.0, digits.to ds p.1)

fits : (z : ℤ) → FitsSigned w64 z → is_i64 z ≡ true
fits (pos n) h = lt-ltb n (2 ^ 63) h.sfits
fits (negsuc n) h = lt-ltb n (2 ^ 63) (omega (arith, h.sfits))

from_fits : (z : ℤ) → is_i64 z ≡ true → FitsSigned w64 z
from_fits (pos n) is = record { sfits = ltb-true n (2 ^ 63) is }
from_fits (negsuc n) is = record { sfits = let low = ltb-true n (2 ^ 63) is in omega (arith, low) }

pub parsed_signed : {E : Type 0} (text : List ℕ) (r : Result ℤ E) → ParsesSigned w64 10 text r → result_ok r ≡ i64_in text
parsed_signed text r =
    let ds = without_leading_sign text in
    let z = signed_digits_value 10 text in
    ok_where r (IsNumeral 10 ds × FitsSigned w64 z) (is_numeral ds && is_i64 z) z (λ p. both (is_numeral ds) (is_i64 z) (numeral ds p.0) (fits z p.1))
    (λ t. let p = and_parts (is_numeral ds) (is_i64 z) t in (from_numeral ds p.0, from_fits z p.1))

pub parsed_unsigned : {E : Type 0} (text : List ℕ) (r : Result ℕ E) → ParsesUnsigned 64 10 text r → result_ok r ≡ u64_in text
parsed_unsigned text r =
    let ds = without_leading_plus text in
    let n = digits_value 10 ds in
    ok_where r (IsNumeral 10 ds × (n < 2 ^ 64)) (is_numeral ds && nat_lt n (2 ^ 64)) n (λ p. both (is_numeral ds) (nat_lt n (2 ^ 64)) (numeral ds p.0) (lt-ltb n (2 ^ 64) p.1))
    (λ t. let p = and_parts (is_numeral ds) (nat_lt n (2 ^ 64)) t in (from_numeral ds p.0, ltb-true n (2 ^ 64) p.1))

-- a result of `parse` for a text
some_result : {T : Type 0} (P : Type 0) (t : Bool) (v : T) → (P → t ≡ true) → (t ≡ true → P) → (r : Result T (Unit {0})) × OkIff r P v
some_result P true v to from = (Ok v, (from refl, refl))
some_result P false v to from = (Err tt, λ p. let no = to p in absurd (cc))

unsigned_result : (text : List ℕ) → (r : Result ℕ (Unit {0})) × ParsesUnsigned 64 10 text r
unsigned_result text =
    let ds = without_leading_plus text in
    let n = digits_value 10 ds in
    some_result (IsNumeral 10 ds × (n < 2 ^ 64)) (is_numeral ds && nat_lt n (2 ^ 64)) n (λ p. both (is_numeral ds) (nat_lt n (2 ^ 64)) (numeral ds p.0) (lt-ltb n (2 ^ 64) p.1))
    (λ t. let p = and_parts (is_numeral ds) (nat_lt n (2 ^ 64)) t in (from_numeral ds p.0, ltb-true n (2 ^ 64) p.1))

signed_result : (text : List ℕ) → (r : Result ℤ (Unit {0})) × ParsesSigned w64 10 text r
signed_result text =
    let ds = without_leading_sign text in
    let z = signed_digits_value 10 text in
    some_result (IsNumeral 10 ds × FitsSigned w64 z) (is_numeral ds && is_i64 z) z (λ p. both (is_numeral ds) (is_i64 z) (numeral ds p.0) (fits z p.1))
    (λ t. let p = and_parts (is_numeral ds) (is_i64 z) t in (from_numeral ds p.0, from_fits z p.1))

-- a number that is printed is read back
pub u64_of_decimal : (n : ℕ) → n < 2 ^ 64 → u64_in (decimal n) ≡ Some n
u64_of_decimal n low =
    let some = unsigned_result (decimal n) in
    sym (parsed_unsigned (decimal n) some.0 some.1) ∙ ap result_ok (parse-decimal 64 n (decimal n) some.0 low low refl some.1)

pub i64_of_decimal : (z : ℤ) → FitsSigned w64 z → i64_in (signed_decimal z) ≡ Some z
i64_of_decimal (pos n) fit =
    let some = signed_result (decimal n) in
    sym (parsed_signed (decimal n) some.0 some.1) ∙ ap result_ok (parse-signed_decimal w64 (pos n) (decimal n) some.0 fit (let f = fit.sfits in omega arith) refl some.1)
i64_of_decimal (negsuc n) fit =
    let low = fit.sfits in
    let k = decimal_is_IsNumeral (suc n) (omega arith) in
    let whole : is_numeral (decimal (suc n)) ≡ true = numeral (decimal (suc n)) k.0 in
    let small : nat_lt n (2 ^ 63) ≡ true = lt-ltb n (2 ^ 63) (omega arith) in
    rw (k.1, whole, small) refl
