-- The text of a term's key, as `terms` prints it and `postings` reads it.
use Rattle.std.specs.Prelude.{◌≡◌, ℕ, ◌+◌, ◌-◌, ◌<◌, ◌^◌, ◌==◌, Bool, true, false, ℤ, pos, negsuc, FitsSigned, List, [], ◌∷◌, ◌++◌, Option, None, Some, bytes_eq, codes, decimal, drop, length, nat_lt, option_map, position, take, ⊤, if◌then◌else◌}
use Rattle.std.specs.Fmt.{signed_decimal}
use Rattle.std.specs.Int.{bytes_high_first, from_be_bytes, w64}
use Rattle.std.specs.List.{find}
use Rattle.std.specs.Net.Addr.{IsIpv6Addr, octets_of, segments_of}
use Rattle.std.specs.Net.Text.{ipv4_text, ipv6_text}
use Rattle.std.specs.Result.{result_ok}
use Rattle.std.specs.Str.{IsUtf8}
use Rattle.std.specs.Str.Lossy.{utf8_valid_len}
use Rattle.hex.specs.Hex.{IsBytes, decode_of, encode_lower}
use Rattle.ii_io.specs.Steps.{◌>>=◌}
use Rattle.ii_base.specs.Paths.{has_zero, path_bytes, segments_of as segments_in_path}
use Rattle.ii_base.specs.Terms.{TermState}
use Rattle.ii_base.specs.Values.{flipped, json_key, number_of_bool, u64_bytes}
use Rattle.ii_base.specs.ValueTypes.{code_of}
use Rattle.ii_base.specs.declared.schema.value_type.ValueType.{ValueType}
use Rattle.ii_base.specs.declared.schema.value_type.ValueType.TheVariants as types
use Rattle.ii_dates.specs.Dates.{date_in, date_text}
use Rattle.ii_json.specs.FastValues.{bool_in, i64_in, u64_in}
use Rattle.ii_term_text.specs.Addresses.{address_in}
use Rattle.ii_term_text.specs.PathTexts.{cut_at_space, has_dot, path_text}

-- a word, a number, a boolean, or a date in nanoseconds since 1970-01-01T00:00:00Z
pub data Scalar : Type 0 where
  word : List ℕ → Scalar
  unsigned : ℕ → Scalar
  signed : ℤ → Scalar
  boolean : Bool → Scalar
  date : ℤ → Scalar

-- the type of a scalar
abbrev pub scalar_type : Scalar → ValueType
scalar_type (word bytes) = types.Str
scalar_type (unsigned n) = types.U64
scalar_type (signed z) = types.I64
scalar_type (boolean b) = types.Bool
scalar_type (date z) = types.Date

-- the key of a scalar
abbrev pub scalar_key : Scalar → List ℕ
scalar_key (word bytes) = bytes
scalar_key (unsigned n) = u64_bytes n
scalar_key (signed z) = u64_bytes (flipped z)
scalar_key (boolean b) = u64_bytes (number_of_bool b)
scalar_key (date z) = u64_bytes (flipped z)

-- a boolean as text
abbrev pub boolean_text : Bool → List ℕ
boolean_text true = codes "true"
boolean_text false = codes "false"

-- a scalar as text
abbrev pub scalar_text : Scalar → List ℕ
scalar_text (word bytes) = bytes
scalar_text (unsigned n) = decimal n
scalar_text (signed z) = signed_decimal z
scalar_text (boolean b) = boolean_text b
scalar_text (date z) = date_text z

-- an IP address as text: ::ffff:a.b.c.d as the IPv4 address
abbrev pub address_text : List ℕ → List ℕ
address_text segments =
    if bytes_eq (take 6 segments) (0 ∷ 0 ∷ 0 ∷ 0 ∷ 0 ∷ 0xffff ∷ []) then ipv4_text (octets_of (drop 6 segments)) else ipv6_text segments

-- bytes that are no key of their type, as text
abbrev pub bytes_text : List ℕ → List ℕ
bytes_text bytes = codes "0x" ++ encode_lower bytes

-- bytes as text if they are UTF-8
abbrev pub utf8_or_bytes : (List ℕ → List ℕ) → List ℕ → List ℕ
utf8_or_bytes as_text bytes = if utf8_valid_len bytes == length bytes then as_text bytes else bytes_text bytes

-- the number in a key of 8 bytes
abbrev pub number_of_key : List ℕ → Option ℕ
number_of_key key = if length key == 8 then Some (from_be_bytes w64 key) else None

-- the signed number of an encoding
abbrev pub unflipped : ℕ → ℤ
unflipped n = if nat_lt n (2 ^ 63) then negsuc (2 ^ 63 - 1 - n) else pos (n - 2 ^ 63)

-- the boolean of a number
abbrev pub boolean_of : ℕ → Option Bool
boolean_of n = if n == 0 then Some false else if n == 1 then Some true else None

-- the boolean in a key
abbrev pub boolean_in : List ℕ → Option Bool
boolean_in key = number_of_key key >>= boolean_of

-- a number as text, or the bytes of the key
abbrev pub text_or_bytes : List ℕ → Option (List ℕ) → List ℕ
text_or_bytes key None = bytes_text key
text_or_bytes key (Some text) = text

-- the text of the key of a scalar
abbrev pub text_of_scalar_key : ValueType → List ℕ → List ℕ
text_of_scalar_key types.Str key = utf8_or_bytes (λ k. k) key
text_of_scalar_key types.U64 key = text_or_bytes key (option_map decimal (number_of_key key))
text_of_scalar_key types.I64 key = text_or_bytes key (option_map (λ n. signed_decimal (unflipped n)) (number_of_key key))
text_of_scalar_key types.Date key = text_or_bytes key (option_map (λ n. date_text (unflipped n)) (number_of_key key))
text_of_scalar_key types.Bool key = text_or_bytes key (option_map boolean_text (boolean_in key))
text_of_scalar_key types.Bytes key = bytes_text key
text_of_scalar_key types.IpAddr key = bytes_text key
text_of_scalar_key types.Json key = bytes_text key

-- The path, the type and the value in a key of a JSON field.
pub record KeyParts : Type 0 where
  pub path : List ℕ
  pub value_type : ValueType
  pub value : List ℕ

-- the type with this letter
abbrev pub type_of_letter : ℕ → Option ValueType
type_of_letter code = find (λ t. code_of t == code) (types.Str ∷ types.U64 ∷ types.I64 ∷ types.Bool ∷ types.Date ∷ types.Bytes ∷ types.Json ∷ types.IpAddr ∷ [])

-- the parts of what a path ends with: byte 0, a letter and a value
abbrev pub parts_after : List ℕ → List ℕ → Option KeyParts
parts_after path (end ∷ code ∷ value) = option_map (λ t. record { path = path; value_type = t; value = value }) (type_of_letter code)
parts_after path (end ∷ []) = None
parts_after path [] = None

-- the parts of a key
abbrev pub parts_of_key : List ℕ → Option KeyParts
parts_of_key key = position (λ b. b == 0) key >>= λ place. parts_after (take place key) (drop place key)

-- the text of parts: the path, the letter of the type and the scalar, separated by spaces
abbrev pub parts_text : KeyParts → List ℕ
parts_text k = utf8_or_bytes path_text k.path ++ 32 ∷ code_of k.value_type ∷ 32 ∷ text_of_scalar_key k.value_type k.value

-- the text of a key
abbrev pub text_of_key : ValueType → List ℕ → List ℕ
text_of_key types.Str key = text_of_scalar_key types.Str key
text_of_key types.U64 key = text_of_scalar_key types.U64 key
text_of_key types.I64 key = text_of_scalar_key types.I64 key
text_of_key types.Bool key = text_of_scalar_key types.Bool key
text_of_key types.Date key = text_of_scalar_key types.Date key
text_of_key types.Bytes key = encode_lower key
text_of_key types.IpAddr key = if length key == 16 then address_text (segments_of key) else bytes_text key
text_of_key types.Json key = text_or_bytes key (option_map parts_text (parts_of_key key))

-- the scalar that a text spells after a letter
abbrev pub scalar_in : List ℕ → List ℕ → Option Scalar
scalar_in letter text =
    if bytes_eq letter (codes "s") then Some (word text)
    else if bytes_eq letter (codes "i") then option_map signed (i64_in text)
    else if bytes_eq letter (codes "u") then option_map unsigned (u64_in text)
    else if bytes_eq letter (codes "o") then option_map boolean (bool_in text)
    else if bytes_eq letter (codes "d") then option_map date (date_in text)
    else None

-- The path, the letter and the value in the text of a key of a JSON field.
pub record TextParts : Type 0 where
  pub path : List ℕ
  pub letter : List ℕ
  pub value : List ℕ

-- the parts of a text: the path ends at the first space that no backslash escapes, the letter at the next space
abbrev pub text_parts : List ℕ → Option TextParts
text_parts text = cut_at_space false text >>= λ c. position (λ b. b == 32) c.rest >>= λ place. Some (record { path = c.front; letter = take place c.rest; value = drop (place + 1) c.rest })

-- the key that the parts of a text spell
abbrev pub spelled_key : Bool → TextParts → Option (List ℕ)
spelled_key expands_dots p = if has_zero p.path then None
    else option_map (λ s. json_key (path_bytes expands_dots (segments_in_path p.path)) (code_of (scalar_type s) ∷ scalar_key s)) (scalar_in p.letter p.value)

-- the key of a JSON field that a text spells
abbrev pub json_key_in : Bool → List ℕ → Option (List ℕ)
json_key_in expands_dots text = text_parts text >>= spelled_key expands_dots

-- the key that a text spells
abbrev pub key_in : ValueType → Bool → List ℕ → Option (List ℕ)
key_in types.Str expands_dots text = Some text
key_in types.U64 expands_dots text = option_map u64_bytes (u64_in text)
key_in types.I64 expands_dots text = option_map (λ z. u64_bytes (flipped z)) (i64_in text)
key_in types.Bool expands_dots text = option_map (λ b. u64_bytes (number_of_bool b)) (bool_in text)
key_in types.Date expands_dots text = option_map (λ z. u64_bytes (flipped z)) (date_in text)
key_in types.Bytes expands_dots text = result_ok (decode_of text)
key_in types.IpAddr expands_dots text = option_map (λ n. bytes_high_first 16 n) (address_in text)
key_in types.Json expands_dots text = json_key_in expands_dots text

-- the term of a field with a key, if there is one
abbrev pub term_with : ℕ → Option (List ℕ) → Option TermState
term_with field key = option_map (λ k. record { field = field; value = k }) key

-- A term after a scalar that a text spells was appended, if it spells one, and whether it does.
abbrev pub AppendsScalar : Option Scalar → TermState → TermState → Bool → Type 0
AppendsScalar None old new found = (found ≡ false) × (new ≡ old)
AppendsScalar (Some s) old new found = (found ≡ true) × (new ≡ record old { value = old.value ++ code_of (scalar_type s) ∷ scalar_key s })

-- the value of a field: a scalar, bytes, the segments of an IP address, or a scalar at a path of a JSON value
pub data KeyValue : Type 0 where
  scalar : Scalar → KeyValue
  raw : List ℕ → KeyValue
  address : List ℕ → KeyValue
  at_path : List ℕ → Scalar → KeyValue

-- the key of a value
abbrev pub value_key : KeyValue → List ℕ
value_key (scalar s) = scalar_key s
value_key (raw bytes) = bytes
value_key (address segments) = octets_of segments
value_key (at_path path s) = json_key path (code_of (scalar_type s) ∷ scalar_key s)

-- The scalar exists: a word is UTF-8, and a number has 64 bits.
abbrev pub IsScalar : Scalar → Type 0
IsScalar (word bytes) = IsUtf8 bytes
IsScalar (unsigned n) = n < 2 ^ 64
IsScalar (signed z) = FitsSigned w64 z
IsScalar (boolean b) = ⊤
IsScalar (date z) = FitsSigned w64 z

-- The value is one of a field of this type, in which dots are expanded or not: then no path has one.
abbrev pub IsOfField : ValueType → Bool → KeyValue → Type 0
IsOfField t expands_dots (scalar s) = (t ≡ scalar_type s) × IsScalar s
IsOfField t expands_dots (raw bytes) = (t ≡ types.Bytes) × IsBytes bytes
IsOfField t expands_dots (address segments) = (t ≡ types.IpAddr) × IsIpv6Addr (record { segments = segments })
IsOfField t expands_dots (at_path path s) = (t ≡ types.Json) × IsUtf8 path × (has_zero path ≡ false) × (expands_dots ≡ true → has_dot path ≡ false) × IsScalar s
