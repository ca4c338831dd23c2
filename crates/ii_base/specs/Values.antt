-- Encodings of values whose order is that of the values.
use Rattle.std.specs.Prelude.{ℕ, suc, ◌+◌, ◌-◌, ◌^◌, Bool, true, false, ℤ, pos, negsuc, ◌-ℤ◌, int_rem, List, ◌∷◌, ◌++◌}
use Rattle.std.specs.Int.{bytes_high_first}
use Rattle.ii_base.specs.declared.schema.value_type.ValueType.{ValueType}
use Rattle.ii_base.specs.declared.schema.value_type.ValueType.TheVariants.{Str}
use Rattle.ii_base.specs.ValueTypes.{code_of}

-- a signed 64-bit number with its top bit flipped
abbrev pub flipped : ℤ → ℕ
flipped (pos n) = 2 ^ 63 + n
flipped (negsuc n) = 2 ^ 63 - suc n

-- a boolean as a number
abbrev pub number_of_bool : Bool → ℕ
number_of_bool true = 1
number_of_bool false = 0

-- a 64-bit number in 8 bytes, big-endian
abbrev pub u64_bytes : ℕ → List ℕ
u64_bytes n = bytes_high_first 8 n

-- nanoseconds truncated to whole seconds, toward zero
abbrev pub whole_seconds : ℤ → ℤ
whole_seconds n = n -ℤ int_rem n (pos 1000000000)

-- a value in a JSON key: the letter of its type, and its number
abbrev pub typed_key : ValueType → ℕ → List ℕ
typed_key t n = code_of t ∷ u64_bytes n

-- a text in a JSON key
abbrev pub text_key : List ℕ → List ℕ
text_key text = code_of Str ∷ text

-- the key of a value or a text at a path
abbrev pub json_key : List ℕ → List ℕ → List ℕ
json_key path key = path ++ 0 ∷ key
