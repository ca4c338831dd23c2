-- A key that is printed is read back as that key.
use Rattle.std.proofs.Common.{◌≡◌, ◌∙◌, ◌<◌, ◌+◌, ◌-◌, ◌^◌, ℕ, suc, Bool, true, false, ℤ, pos, negsuc, FitsSigned, w64, List, [], ◌∷◌, ◌++◌, Option, Some, ap, arith, decimal, length, option_map, refl}
use Rattle.std.specs.Fmt.{signed_decimal}
use Rattle.std.specs.Result.{result_ok}
use Rattle.std.proofs.lemmas.Bool.{le-ltb, lt-ltb}
use Rattle.std.proofs.lemmas.Nat.{from_be_bytes-to_be_bytes_8}
use Rattle.hex.proofs.HexLemmas.{decode_of-encode_lower}
use Rattle.ii_io.specs.Steps.{◌>>=◌}
use Rattle.ii_base.specs.Paths as paths
use Rattle.ii_base.specs.Values.{flipped, json_key, number_of_bool, u64_bytes}
use Rattle.ii_base.specs.ValueTypes.{code_of}
use Rattle.ii_base.specs.declared.schema.value_type.ValueType.{ValueType}
use Rattle.ii_base.specs.declared.schema.value_type.ValueType.TheVariants as types
use Rattle.ii_dates.specs.Dates.{date_text}
use Rattle.ii_dates.proofs.DateLaws.{date_read_back}
use Rattle.ii_json.proofs.ParseLemmas.{i64_of_decimal, u64_of_decimal}
use Rattle.ii_term_text.specs.KeyTexts.{IsOfField, IsScalar, KeyValue, Scalar, address, at_path, boolean, boolean_in, boolean_of, boolean_text, date, key_in, text_of_key, number_of_key, parts_of_key, raw, scalar, scalar_in, scalar_key, text_of_scalar_key, scalar_text, scalar_type, signed, text_or_bytes, text_parts, type_of_letter, unflipped, unsigned, value_key, word}
use Rattle.ii_term_text.specs.PathTexts.{path_text}
use Rattle.ii_term_text.proofs.AddressBytes.{sixteen_octets}
use Rattle.ii_term_text.proofs.AddressTexts.{address_key_read, segments_again}
use Rattle.ii_term_text.proofs.KeyLemmas.{back_of, flipped_small, front_of, no_zero_text, path_again, spelled_by, utf8_is, zero_after}
use Rattle.ii_term_text.proofs.PathLaws.{path_cut}

-- a number is in its key
number_again : (n : ℕ) → n < 2 ^ 64 → number_of_key (u64_bytes n) ≡ Some n
number_again n low = ap Some (from_be_bytes-to_be_bytes_8 n low)

flipped_again : (z : ℤ) → FitsSigned w64 z → unflipped (flipped z) ≡ z
flipped_again (pos n) fit = rw (le-ltb (2 ^ 63 + n) (2 ^ 63) (omega arith)) (ap pos (omega arith))
flipped_again (negsuc n) fit = let f = fit.sfits in rw (lt-ltb (2 ^ 63 - suc n) (2 ^ 63) (omega (arith, f))) (ap negsuc (omega (arith, f)))

boolean_again : (b : Bool) → boolean_in (u64_bytes (number_of_bool b)) ≡ Some b
boolean_again true = ap (λ (n : Option ℕ). n >>= boolean_of) (number_again 1 (omega arith))
boolean_again false = ap (λ (n : Option ℕ). n >>= boolean_of) (number_again 0 (omega arith))

signed_again : (z : ℤ) → FitsSigned w64 z → text_or_bytes (u64_bytes (flipped z)) (option_map (λ n. signed_decimal (unflipped n)) (number_of_key (u64_bytes (flipped z)))) ≡ signed_decimal z
signed_again z fit = ap (λ (n : Option ℕ). text_or_bytes (u64_bytes (flipped z)) (option_map (λ n. signed_decimal (unflipped n)) n)) (number_again (flipped z) (flipped_small z fit)) ∙ ap signed_decimal (flipped_again z fit)

date_again : (z : ℤ) → FitsSigned w64 z → text_or_bytes (u64_bytes (flipped z)) (option_map (λ n. date_text (unflipped n)) (number_of_key (u64_bytes (flipped z)))) ≡ date_text z
date_again z fit = ap (λ (n : Option ℕ). text_or_bytes (u64_bytes (flipped z)) (option_map (λ n. date_text (unflipped n)) n)) (number_again (flipped z) (flipped_small z fit)) ∙ ap date_text (flipped_again z fit)

-- the text of the key of a scalar is that of the scalar
scalar_again : (s : Scalar) → IsScalar s → text_of_scalar_key (scalar_type s) (scalar_key s) ≡ scalar_text s
scalar_again (word bytes) is = utf8_is (λ k. k) bytes is
scalar_again (unsigned n) is = ap (λ (n' : Option ℕ). text_or_bytes (u64_bytes n) (option_map decimal n')) (number_again n is)
scalar_again (signed z) is = signed_again z is
scalar_again (boolean b) is = ap (λ (o : Option Bool). text_or_bytes (u64_bytes (number_of_bool b)) (option_map boolean_text o)) (boolean_again b)
scalar_again (date z) is = date_again z is

-- the text of a scalar is read back
scalar_read : (s : Scalar) → IsScalar s → scalar_in (code_of (scalar_type s) ∷ []) (scalar_text s) ≡ Some s
scalar_read (word bytes) is = refl
scalar_read (unsigned n) is = rw (u64_of_decimal n is) refl
scalar_read (signed z) is = rw (i64_of_decimal z is) refl
scalar_read (boolean true) is = refl
scalar_read (boolean false) is = refl
scalar_read (date z) is = rw (date_read_back z is) refl

-- a scalar's key in a field of its type
field_read : (expands_dots : Bool) (s : Scalar) → IsScalar s → key_in (scalar_type s) expands_dots (scalar_text s) ≡ Some (scalar_key s)
field_read expands_dots (word bytes) is = refl
field_read expands_dots (unsigned n) is = rw (u64_of_decimal n is) refl
field_read expands_dots (signed z) is = rw (i64_of_decimal z is) refl
field_read expands_dots (boolean true) is = refl
field_read expands_dots (boolean false) is = refl
field_read expands_dots (date z) is = rw (date_read_back z is) refl

plain_text : (s : Scalar) → text_of_key (scalar_type s) (scalar_key s) ≡ text_of_scalar_key (scalar_type s) (scalar_key s)
plain_text (word bytes) = refl
plain_text (unsigned n) = refl
plain_text (signed z) = refl
plain_text (boolean b) = refl
plain_text (date z) = refl

-- the parts of a key at a path
pub letter_type : (t : ValueType) → type_of_letter (code_of t) ≡ Some t
letter_type types.Str = refl
letter_type types.U64 = refl
letter_type types.I64 = refl
letter_type types.Bool = refl
letter_type types.Date = refl
letter_type types.Bytes = refl
letter_type types.Json = refl
letter_type types.IpAddr = refl

parts_again : (path value : List ℕ) (t : ValueType) → paths.has_zero path ≡ false → parts_of_key (json_key path (code_of t ∷ value)) ≡ Some (record { path = path; value_type = t; value = value })
parts_again path value t none = rw (zero_after path (code_of t ∷ value) none, front_of path (0 ∷ code_of t ∷ value), back_of path (0 ∷ code_of t ∷ value), letter_type t) refl

-- the parts of the text of such a key
cut_again : (path value : List ℕ) (t : ValueType) → text_parts (path_text path ++ 32 ∷ code_of t ∷ 32 ∷ value) ≡ Some (record { path = path_text path; letter = code_of t ∷ []; value = value })
cut_again path value types.Str = rw (path_cut path (115 ∷ 32 ∷ value), lt-ltb 1 (length (115 ∷ 32 ∷ value)) (omega arith)) refl
cut_again path value types.U64 = rw (path_cut path (117 ∷ 32 ∷ value), lt-ltb 1 (length (117 ∷ 32 ∷ value)) (omega arith)) refl
cut_again path value types.I64 = rw (path_cut path (105 ∷ 32 ∷ value), lt-ltb 1 (length (105 ∷ 32 ∷ value)) (omega arith)) refl
cut_again path value types.Bool = rw (path_cut path (111 ∷ 32 ∷ value), lt-ltb 1 (length (111 ∷ 32 ∷ value)) (omega arith)) refl
cut_again path value types.Date = rw (path_cut path (100 ∷ 32 ∷ value), lt-ltb 1 (length (100 ∷ 32 ∷ value)) (omega arith)) refl
cut_again path value types.Bytes = rw (path_cut path (98 ∷ 32 ∷ value), lt-ltb 1 (length (98 ∷ 32 ∷ value)) (omega arith)) refl
cut_again path value types.Json = rw (path_cut path (106 ∷ 32 ∷ value), lt-ltb 1 (length (106 ∷ 32 ∷ value)) (omega arith)) refl
cut_again path value types.IpAddr = rw (path_cut path (112 ∷ 32 ∷ value), lt-ltb 1 (length (112 ∷ 32 ∷ value)) (omega arith)) refl

pub key_read_back : (value_type : ValueType) (expands_dots : Bool) (v : KeyValue) → IsOfField value_type expands_dots v → key_in value_type expands_dots (text_of_key value_type (value_key v)) ≡ Some (value_key v)
key_read_back value_type expands_dots (scalar s) is = rw (is.0, plain_text s, scalar_again s is.1) (field_read expands_dots s is.1)
key_read_back value_type expands_dots (raw bytes) is = rw is.0 (ap result_ok (decode_of-encode_lower bytes is.1))
key_read_back value_type expands_dots (address segments) is = rw (is.0, sixteen_octets segments is.1.0, segments_again segments) (address_key_read segments is.1)
key_read_back value_type expands_dots (at_path path s) is =
    let t = scalar_type s in
    let text : text_of_key types.Json (json_key path (code_of t ∷ scalar_key s)) ≡ path_text path ++ 32 ∷ code_of t ∷ 32 ∷ scalar_text s =
    rw (parts_again path (scalar_key s) t is.2, utf8_is path_text path is.1, scalar_again s is.4) refl in
    let read = spelled_by expands_dots (path_text path ++ 32 ∷ code_of t ∷ 32 ∷ scalar_text s) (path_text path) (code_of t ∷ []) (scalar_text s) s (cut_again path (scalar_text s) t) (no_zero_text path is.2) (scalar_read s is.4) in
    rw (is.0, text) (read ∙ ap (λ (p : List ℕ). Some (json_key p (code_of t ∷ scalar_key s))) (path_again expands_dots path is.3))
