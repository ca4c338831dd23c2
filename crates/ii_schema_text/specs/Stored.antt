-- What is stored of each document.
use Rattle.std.specs.Prelude.{◌||◌, ℕ, Bool, true, false, List, [], ◌∷◌, Option, None, Some, slice_get}
use Rattle.std.specs.List.{list_any}
use Rattle.ii_base.specs.Schema.{SchemaEntry}

-- Whether the complete line is stored; else, for each field in order, whether its member is stored, and those after the last one aren't.
pub record StoredState : Type 0 where
  pub is_line : Bool
  pub fields : List Bool

-- whether anything is stored
abbrev pub is_any : StoredState → Bool
is_any s = s.is_line || list_any (λ is_stored. is_stored) s.fields

-- a flag, or false if there is none
abbrev pub is_set : Option Bool → Bool
is_set None = false
is_set (Some flag) = flag

-- whether the value of a field can be printed: it is stored, or the complete line is
abbrev pub has_field : StoredState → ℕ → Bool
has_field s field = s.is_line || is_set (slice_get s.fields field)

-- the names of the fields that are stored, in the order of the schema
abbrev pub stored_names : List Bool → List SchemaEntry → List (List ℕ)
stored_names [] es = []
stored_names (flag ∷ flags) [] = []
stored_names (true ∷ flags) (e ∷ es) = e.name ∷ stored_names flags es
stored_names (false ∷ flags) (e ∷ es) = stored_names flags es
