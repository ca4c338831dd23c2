-- The path and the type in a JSON key.
use Rattle.std.specs.Prelude.{ℕ, ◌+◌, Bool, not, List, [], ◌∷◌, length, ◌==◌, if◌then◌else◌, Option, slice_get, unwrap_or}
use Rattle.std.specs.List.{find, take_while}
use Rattle.ii_io.specs.Steps.{◌>>=◌}
use Rattle.ii_base.specs.ValueTypes.{code_of}
use Rattle.ii_base.specs.declared.schema.value_type.ValueType.{ValueType}
use Rattle.ii_base.specs.declared.schema.value_type.ValueType.TheVariants.{Str, U64, I64, Bool as Truth, Date, Bytes, Json, IpAddr}

-- whether a byte may be part of a path
abbrev pub is_path_byte : ℕ → Bool
is_path_byte b = not (b == 0)

-- the path at the front of a key: what comes before its first byte 0
abbrev pub path_in : List ℕ → List ℕ
path_in key = take_while is_path_byte key

-- the type of a letter
abbrev pub type_of_code : ℕ → Option ValueType
type_of_code code = find (λ t. code_of t == code) (Str ∷ U64 ∷ I64 ∷ Truth ∷ Date ∷ Bytes ∷ Json ∷ IpAddr ∷ [])

-- whether values of a type are JSON
abbrev pub is_json : ValueType → Bool
is_json t = code_of t == code_of Json

-- the type in a key, whose letter follows the byte 0
unfoldable pub type_in : List ℕ → Option ValueType
type_in key = slice_get key (length (path_in key) + 1) >>= type_of_code

-- the type of a key's values by the type of its field; in a JSON field the key determines it
abbrev pub type_under : ValueType → List ℕ → ValueType
type_under t key = if is_json t then unwrap_or (type_in key) t else t

-- whether a key of a field with values of a type belongs to a text
abbrev pub is_key_of_text : ValueType → List ℕ → Bool
is_key_of_text t key = code_of (type_under t key) == code_of Str
