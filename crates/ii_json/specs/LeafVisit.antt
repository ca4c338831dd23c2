-- The leaves below a path, and the faults of a sink for them.
use Rattle.std.specs.Prelude.{◌≡◌, ◌⊎◌, ℕ, Bool, true, false, List, [], ◌∷◌, ◌++◌, map, String, Option, None, Some, MatchResult, Result}
use Rattle.std.specs.declared.alloc.Global.{Global}
use Rattle.ii_io.specs.declared.faults.Fault.{Fault}
use Rattle.ii_io.specs.declared.faults.Fault.TheVariants.{OutOfMemory}
use Rattle.ii_base.specs.declared.json_value.JsonValue.{JsonValue}
use Rattle.ii_base.specs.Json.{Json, Leaf, array, items_from, items_leaves, json_of, leaf, leaves_below, members_from, members_leaves, null, object, text_leaf, unsupported, value_leaf}
use Rattle.ii_base.specs.declared.schema.value_type.ValueType.{ValueType}
use Rattle.ii_base.specs.declared.schema.value_type.ValueType.TheVariants as types
use Rattle.ii_base.specs.Paths.{PathState}

-- whether a value is neither an array nor an object
abbrev pub is_no_branch : Json → Bool
is_no_branch null = true
is_no_branch (leaf l) = true
is_no_branch (array is) = false
is_no_branch (object ms) = false

-- whether values of a type are 64-bit numbers
abbrev pub is_number_type : ValueType → Bool
is_number_type types.Str = false
is_number_type types.U64 = true
is_number_type types.I64 = true
is_number_type types.Bool = true
is_number_type types.Date = true
is_number_type types.Bytes = false
is_number_type types.Json = false
is_number_type types.IpAddr = false

-- whether a JSON value may have this leaf: its value, if it has one, is a number
abbrev pub may_be_leaf : Leaf → Bool
may_be_leaf (text_leaf t) = true
may_be_leaf (value_leaf t n) = is_number_type t
may_be_leaf (unsupported kind) = true

-- the leaves of a value at a path
abbrev pub leaves_at : PathState → JsonValue → List (List ℕ × Leaf)
leaves_at at value = leaves_below at.expand_dots at.segments (json_of value)

-- the leaves of an array's elements at a path
abbrev pub items_leaves_at : PathState → List JsonValue → List (List ℕ × Leaf)
items_leaves_at at values = items_leaves at.expand_dots at.segments (items_from (map json_of values))

-- the leaves of an object's members below a path
abbrev pub members_leaves_at : PathState → List (String Global × JsonValue) → List (List ℕ × Leaf)
members_leaves_at at members = members_leaves at.expand_dots at.segments (members_from (map (λ m. (m.0, json_of m.1)) members))

-- the first of two faults
abbrev pub first_fault : Option Fault → Option Fault → Option Fault
first_fault None later = later
first_fault (Some fault) later = Some fault

-- A call succeeds only without a fault, and fails only with this fault or `OutOfMemory`.
abbrev pub IsRefusedBy : {T : Type 0} → Option Fault → Result T Fault → Type 0
IsRefusedBy cause result = MatchResult result (λ _. cause ≡ None) (λ e. (e ≡ OutOfMemory) ⊎ (cause ≡ Some e))

-- the first fault for a list of leaves, in order
abbrev pub leaves_fault : (List (List ℕ × Leaf) → List ℕ × Leaf → Option Fault) → List (List ℕ × Leaf) → List (List ℕ × Leaf) → Option Fault
leaves_fault fault before [] = None
leaves_fault fault before (l ∷ ls) = first_fault (fault before l) (leaves_fault fault (before ++ l ∷ []) ls)
