-- The types of values and their codes.
use Rattle.std.specs.Prelude.{ℕ, Bool, true, false}
use Rattle.ii_base.specs.declared.schema.value_type.ValueType.{ValueType}
use Rattle.ii_base.specs.declared.schema.value_type.ValueType.TheVariants.{Str, U64, I64, Bool as BoolType, Date, Bytes, Json, IpAddr}

-- the letter of a type in a key
abbrev pub code_of : ValueType → ℕ
code_of Str = 0x73
code_of U64 = 0x75
code_of I64 = 0x69
code_of BoolType = 0x6F
code_of Date = 0x64
code_of Bytes = 0x62
code_of Json = 0x6A
code_of IpAddr = 0x70

-- whether a field can hold plain values of the type
abbrev pub is_plain : ValueType → Bool
is_plain U64 = true
is_plain I64 = true
is_plain BoolType = true
is_plain Date = true
is_plain Bytes = true
is_plain IpAddr = true
is_plain Str = false
is_plain Json = false
