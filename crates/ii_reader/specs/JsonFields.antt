-- The paths and types of a JSON field's keys.
use Rattle.std.specs.Prelude.{ℕ, ◌++◌, ◌≤◌, ◌+◌, ◌-◌, ◌*◌, ◌^◌, Bool, ◌&&◌, List, [], ◌∷◌, ◌==◌, if◌then◌else◌, Option, Some, bytes_eq}
use Rattle.std.specs.Option.{option_map}
use Rattle.ii_io.specs.Steps.{◌>>=◌}
use Rattle.ii_base.specs.ValueTypes.{code_of}
use Rattle.ii_base.specs.declared.schema.value_type.ValueType.{ValueType}
use Rattle.ii_definitions.specs.JsonKeys.{path_in, type_in}
use Rattle.ii_termstore.specs.declared.term_info.TermInfo.{TermInfo}
use Rattle.ii_termdict.specs.Dictionary.{TermEntry}

-- A path with a type, the number of bytes of its terms, and how many there are.
pub record FieldSpaceState : Type 0 where
  pub field_name : List ℕ
  pub field_type : ValueType
  pub postings_size : ℕ
  pub positions_size : ℕ
  pub num_terms : ℕ

-- the size of one term, under its path and type
abbrev pub space_of_term : List ℕ → TermInfo → ValueType → FieldSpaceState
space_of_term key info value_type = record {
  field_name = path_in key;
  field_type = value_type;
  postings_size = info.postings_range.end - info.postings_range.start;
  positions_size = info.positions_range.end - info.positions_range.start;
  num_terms = 1;
}

-- the size of one term, if its key has a type
abbrev pub space_of : TermEntry → Option FieldSpaceState
space_of e = option_map (space_of_term e.0 e.1) (type_in e.0)

-- the bytes that all keys of a path with a type begin with
abbrev pub label_of : FieldSpaceState → List ℕ
label_of s = s.field_name ++ 0 ∷ code_of s.field_type ∷ []

-- whether two spaces have the same path and type
abbrev pub is_same_label : FieldSpaceState → FieldSpaceState → Bool
is_same_label s t = bytes_eq s.field_name t.field_name && (code_of s.field_type == code_of t.field_type)

-- the total size of two terms under one path and type
abbrev pub sum_of : FieldSpaceState → FieldSpaceState → FieldSpaceState
sum_of s t = record s {
  postings_size = s.postings_size + t.postings_size;
  positions_size = s.positions_size + t.positions_size;
  num_terms = s.num_terms + t.num_terms;
}

-- spaces with an earlier term: in the first space if it has that path and type, else in a new one
abbrev pub with_space : FieldSpaceState → List FieldSpaceState → List FieldSpaceState
with_space s [] = s ∷ []
with_space s (t ∷ ts) = if is_same_label s t then sum_of s t ∷ ts else s ∷ t ∷ ts

-- the spaces of all keys in order, or `None` if a key has no type
abbrev pub spaces_of : List TermEntry → Option (List FieldSpaceState)
spaces_of [] = Some []
spaces_of (e ∷ es) = do
  s ← space_of e
  spaces ← spaces_of es
  Some (with_space s spaces)

-- The size of `n` terms is at most that of `n` ranges of 64 bits.
pub record IsWithin (n : ℕ) (s : FieldSpaceState) : Type 0 where
  pub postings : s.postings_size ≤ n * 2 ^ 64
  pub positions : s.positions_size ≤ n * 2 ^ 64
  pub terms : s.num_terms ≤ n
