-- Keys, and where their parts are.
use Rattle.std.proofs.Common.{◌≡◌, ◌≢◌, ◌<◌, ◌≤◌, ◌-◌, ◌^◌, ℕ, Option, Bool, true, false, ◌==◌, cond, ℤ, pos, negsuc, FitsSigned, w64, List, [], ◌∷◌, ◌++◌, None, Some, ap, append_assoc, arith, drop, get_or, length, length-append, nat_lt, refl, take}
use Rattle.std.specs.List.{position, position_or_len}
use Rattle.std.specs.Str.{IsUtf8}
use Rattle.std.specs.Str.Lossy.{utf8_valid_len}
use Rattle.std.proofs.lemmas.Bool.{eq-eqb, lt-ltb, ltb-false, ltb-true, ne_eqb, or_parts}
use Rattle.std.proofs.lemmas.Str.{utf8_valid_len-IsUtf8}
use Rattle.ii_base.specs.Paths.{has_zero, path_bytes, segments_of}
use Rattle.ii_base.specs.Values.{flipped, json_key}
use Rattle.ii_base.specs.ValueTypes.{code_of}
use Rattle.ii_base.specs.declared.schema.value_type.ValueType.{ValueType}
use Rattle.ii_base.specs.declared.schema.value_type.ValueType.TheVariants.{Str, U64, I64, Bool as Truth, Date, Bytes, Json, IpAddr}
use Rattle.ii_base.specs.Terms.{TermState}
use Rattle.ii_term_text.specs.KeyTexts.{AppendsScalar, Scalar, json_key_in, parts_of_key, scalar_in, scalar_key, scalar_type, text_parts, type_of_letter, unflipped, utf8_or_bytes}
use Rattle.ii_term_text.specs.PathTexts.{has_dot, path_text}
use Rattle.ii_term_text.proofs.PathLaws.{by_byte, expanded_path_read, path_read}

-- a signed number is encoded in 64 bits
pub flipped_small : (z : ℤ) → FitsSigned w64 z → flipped z < 2 ^ 64
flipped_small (pos n) fit = let f = fit.sfits in omega arith
flipped_small (negsuc n) fit = let f = fit.sfits in omega arith

-- the first byte 0 of a key follows the path
zero_place : (path rest : List ℕ) → has_zero path ≡ false → position_or_len (λ b. b == 0) (path ++ 0 ∷ rest) ≡ length path
zero_place [] rest none = refl
zero_place (b ∷ bs) rest none =
    let h = or_parts (b == 0) (has_zero bs) none in
    rw h.0 (omega (arith, zero_place bs rest h.1))

pub zero_after : (path rest : List ℕ) → has_zero path ≡ false → position (λ b. b == 0) (path ++ 0 ∷ rest) ≡ Some (length path)
zero_after path rest none =
    let here = zero_place path rest none in
    let inside : nat_lt (length path) (length (path ++ 0 ∷ rest)) ≡ true = lt-ltb (length path) (length (path ++ 0 ∷ rest)) (omega (arith, length-append path (0 ∷ rest))) in
    rw (here, inside) refl

-- what is before and after a place
pub front_of : (path rest : List ℕ) → take (length path) (path ++ rest) ≡ path
front_of [] rest = refl
front_of (b ∷ bs) rest = ap (λ (l : List ℕ). b ∷ l) (front_of bs rest)

pub back_of : (path rest : List ℕ) → drop (length path) (path ++ rest) ≡ rest
back_of [] rest = refl
back_of (b ∷ bs) rest = back_of bs rest

-- the text of a path is read back, whether dots are expanded or not
pub path_again : (expands_dots : Bool) (path : List ℕ) → (expands_dots ≡ true → has_dot path ≡ false) → path_bytes expands_dots (segments_of (path_text path)) ≡ path
path_again true path none = expanded_path_read path (none refl)
path_again false path none = path_read path

-- the text of a path has no byte 0 if the path has none
pub no_zero_text : (path : List ℕ) → has_zero path ≡ false → has_zero (path_text path) ≡ false
no_zero_text [] none = refl
no_zero_text (b ∷ bs) none =
    let h = or_parts (b == 0) (has_zero bs) none in
    by_byte (λ (t : List ℕ). has_zero (t ++ path_text bs) ≡ false) b (λ one. no_zero_text bs h.1) (λ other. rw h.0 (no_zero_text bs h.1)) (λ other plain. rw h.0 (no_zero_text bs h.1))

-- a scalar after the path of a key
pub key_again : (path rest : List ℕ) → (path ++ 0 ∷ []) ++ rest ≡ json_key path rest
key_again path rest = append_assoc path (0 ∷ []) rest

-- what is UTF-8 is written as text
pub utf8_is : (as_text : List ℕ → List ℕ) (bytes : List ℕ) → IsUtf8 bytes → utf8_or_bytes as_text bytes ≡ as_text bytes
utf8_is as_text bytes is =
    let whole : (utf8_valid_len bytes == length bytes) ≡ true = eq-eqb (utf8_valid_len bytes) (length bytes) (utf8_valid_len-IsUtf8 bytes is) in
    rw whole refl

-- a letter that no type has
pub no_letter : (code : ℕ) → ((t : ValueType) → code_of t ≢ code) → type_of_letter code ≡ None
no_letter code none =
    rw (ne_eqb 115 code (none Str), ne_eqb 117 code (none U64), ne_eqb 105 code (none I64), ne_eqb 111 code (none Truth), ne_eqb 100 code (none Date), ne_eqb 98 code (none Bytes), ne_eqb 106 code (none Json), ne_eqb 112 code (none IpAddr)) refl

-- a signed number is read from its encoding
pub unflipped_again : (n : ℕ) → n < 2 ^ 64 → (FitsSigned w64 (unflipped n)) × (n ≡ flipped (unflipped n))
unflipped_again n low = by (nat_lt n (2 ^ 63)) refl
  where
    by : (t : Bool) → nat_lt n (2 ^ 63) ≡ t → (FitsSigned w64 (cond t (negsuc (2 ^ 63 - 1 - n)) (pos (n - 2 ^ 63)))) × (n ≡ flipped (cond t (negsuc (2 ^ 63 - 1 - n)) (pos (n - 2 ^ 63))))
    by true is = let h = ltb-true n (2 ^ 63) is in (record { sfits = omega (arith, h) }, omega (arith, h))
    by false is = let h = ltb-false n (2 ^ 63) is in (record { sfits = omega (arith, h, low) }, omega (arith, h))

-- a scalar that was appended is the one that the text spells
pub appended_scalar : (o : Option Scalar) (old new : TermState) (found : Bool) → AppendsScalar o old new found → found ≡ true
    → (s : Scalar) × (o ≡ Some s) × (new ≡ record old { value = old.value ++ code_of (scalar_type s) ∷ scalar_key s })
appended_scalar None old new found is appended = absurd (let no = is.0 in cc)
appended_scalar (Some s) old new found is appended = (s, refl, is.1)

-- a key whose letter is that of no type has no parts
pub parts_lost : (key rest : List ℕ) (place : ℕ) → position (λ b. b == 0) key ≡ Some place → rest ≡ drop place key → 2 ≤ length rest → ((t : ValueType) → code_of t ≢ get_or rest 1 0) → parts_of_key key ≡ None
parts_lost key [] place found is long none = absurd (omega (arith, long))
parts_lost key (end ∷ []) place found is long none = absurd (omega (arith, long))
parts_lost key (end ∷ code ∷ value) place found is long none = rw (found, ← is, no_letter code none) refl

-- the key that the parts of a text spell
pub spelled_by : (expands_dots : Bool) (text path letter value : List ℕ) (s : Scalar) → text_parts text ≡ Some (record { path = path; letter = letter; value = value }) → has_zero path ≡ false → scalar_in letter value ≡ Some s
    → json_key_in expands_dots text ≡ Some (json_key (path_bytes expands_dots (segments_of path)) (code_of (scalar_type s) ∷ scalar_key s))
spelled_by expands_dots text path letter value s parts zero is = rw (parts, zero, is) refl
