-- The bytes of a term in a JSON field.
use Rattle.std.specs.Prelude.{ℕ, List, [], ◌∷◌, ◌++◌, map, ◌==◌, if◌then◌else◌}
use Rattle.ii_base.specs.ValueTypes.{code_of}
use Rattle.ii_base.specs.declared.schema.value_type.ValueType.{ValueType}

-- the byte that ends a path
abbrev pub end_of_path : ℕ
end_of_path = 0x00

-- the encoding of a byte of a path in a term: the digit 0 replaces the byte that ends a path
abbrev pub written_byte : ℕ → ℕ
written_byte byte = if byte == end_of_path then 0x30 else byte

-- the encoding of a path in a term, with the byte that ends it
abbrev pub written_path : List ℕ → List ℕ
written_path path = map written_byte path ++ end_of_path ∷ []

-- the encoding of a term: a path and its end, the letter of a type, and the bytes of a value
abbrev pub written_json_term : List ℕ → ValueType → List ℕ → List ℕ
written_json_term path t payload = written_path path ++ code_of t ∷ payload
