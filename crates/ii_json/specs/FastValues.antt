-- Texts as the numbers and booleans that Rust's `parse` returns for them.
use Rattle.std.specs.Prelude.{◌≡◌, ℕ, ◌^◌, Bool, true, false, ◌&&◌, ℤ, pos, negsuc, List, [], ◌∷◌, ◌++◌, length, nat_lt, codes, bytes_eq, if◌then◌else◌, Option, None, Some}
use Rattle.std.specs.Option.{option_map, option_or}
use Rattle.std.specs.Str.{all_ascii_digits}
use Rattle.std.specs.Str.Parse.{digits_value, signed_digits_value, without_leading_plus, without_leading_sign}
use Rattle.ii_base.specs.declared.schema.value_type.ValueType.{ValueType}
use Rattle.ii_base.specs.declared.schema.value_type.ValueType.TheVariants.{U64, I64, Bool as BoolType}
use Rattle.ii_base.specs.Terms.{TermState}
use Rattle.ii_base.specs.ValueTypes.{code_of}
use Rattle.ii_base.specs.Values.{flipped, number_of_bool, u64_bytes}
use Rattle.ii_json.specs.JsonTerms.{end_of_path}

-- whether a text is one or more decimal digits
abbrev pub is_numeral : List ℕ → Bool
is_numeral text = nat_lt 0 (length text) && all_ascii_digits text

-- whether an integer fits `i64`
abbrev pub is_i64 : ℤ → Bool
is_i64 (pos n) = nat_lt n (2 ^ 63)
is_i64 (negsuc n) = nat_lt n (2 ^ 63)

-- the `i64` that digits denote, after a plus, a minus or nothing
abbrev pub i64_in : List ℕ → Option ℤ
i64_in text = if is_numeral (without_leading_sign text) && is_i64 (signed_digits_value 10 text) then Some (signed_digits_value 10 text) else None

-- the `u64` that digits denote, after a plus or nothing
abbrev pub u64_in : List ℕ → Option ℕ
u64_in text = let digits = without_leading_plus text in if is_numeral digits && nat_lt (digits_value 10 digits) (2 ^ 64) then Some (digits_value 10 digits) else None

-- the boolean that a text denotes
abbrev pub bool_in : List ℕ → Option Bool
bool_in text = if bytes_eq text (codes "true") then Some true else if bytes_eq text (codes "false") then Some false else None

-- a value in a JSON field: the letter of its type, and its number
abbrev pub typed_value : ValueType → ℕ → List ℕ
typed_value value_type number = code_of value_type ∷ u64_bytes number

-- the value of a text: the first of the three
abbrev pub fast_value_in : List ℕ → Option (List ℕ)
fast_value_in text =
    option_or (option_map (λ n. typed_value I64 (flipped n)) (i64_in text))
    (option_or (option_map (typed_value U64) (u64_in text)) (option_map (λ b. typed_value BoolType (number_of_bool b)) (bool_in text)))

-- a term with a value appended
abbrev pub with_value : TermState → List ℕ → TermState
with_value term value = record term { value = term.value ++ value }

-- The bytes are a path and the byte that ends it, without a value.
pub record IsPathAlone (bytes : List ℕ) : Type 0 where
  pub path : List ℕ
  pub is : bytes ≡ path ++ end_of_path ∷ []
