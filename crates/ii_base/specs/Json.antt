-- A JSON value and its leaves.
use Rattle.std.specs.Prelude.{ℕ, ◌^◌, Bool, pos, List, [], ◌∷◌, ◌++◌, nat_lt, if◌then◌else◌, Option, Some, None, String, string_bytes}
use Rattle.std.specs.declared.alloc.Global.{Global}
use Rattle.ii_io.specs.declared.faults.LeafKind.{LeafKind}
use Rattle.ii_io.specs.declared.faults.LeafKind.TheVariants as kinds
use Rattle.ii_base.specs.declared.json_value.JsonValue.{JsonValue, fold-JsonValue}
use Rattle.ii_base.specs.declared.json_value.JsonValue.TheOpen.{JsonValue-F}
use Rattle.ii_base.specs.declared.json_value.JsonLeaf.{JsonLeaf}
use Rattle.ii_base.specs.declared.json_value.JsonLeaf.TheVariants.{Text, Value, Unsupported}
use Rattle.ii_base.specs.declared.schema.value_type.ValueType.{ValueType}
use Rattle.ii_base.specs.declared.schema.value_type.ValueType.TheVariants as types
use Rattle.ii_base.specs.Paths.{has_zero, joined_segments, segment_bytes}
use Rattle.ii_base.specs.Values.{flipped, number_of_bool, whole_seconds}

-- What the index takes from a leaf: a text to tokenize, the number of a value of a type, or nothing.
pub data Leaf : Type 0 where
  text_leaf : List ℕ → Leaf
  value_leaf : ValueType → ℕ → Leaf
  unsupported : LeafKind → Leaf

mutual
  pub data Json : Type 0 where
    null : Json
    leaf : Leaf → Json
    array : Items → Json
    object : Members → Json

  pub data Items : Type 0 where
    no_items : Items
    item : Json → Items → Items

  pub data Members : Type 0 where
    no_members : Members
    member : List ℕ → Json → Members → Members

-- The leaves of a value at a path, each with its path. A member whose key holds byte 0 is omitted.
abbrev mutual
  pub leaves_below : Bool → List (List ℕ) → Json → List (List ℕ × Leaf)
  leaves_below expand_dots path null = []
  leaves_below expand_dots path (leaf l) = (joined_segments path, l) ∷ []
  leaves_below expand_dots path (array is) = items_leaves expand_dots path is
  leaves_below expand_dots path (object ms) = members_leaves expand_dots path ms

  pub items_leaves : Bool → List (List ℕ) → Items → List (List ℕ × Leaf)
  items_leaves expand_dots path no_items = []
  items_leaves expand_dots path (item j is) = leaves_below expand_dots path j ++ items_leaves expand_dots path is

  pub members_leaves : Bool → List (List ℕ) → Members → List (List ℕ × Leaf)
  members_leaves expand_dots path no_members = []
  members_leaves expand_dots path (member k j ms) =
      (if has_zero k then [] else leaves_below expand_dots (path ++ segment_bytes expand_dots k ∷ []) j) ++ members_leaves expand_dots path ms

-- the leaves of a value with their paths, in order
abbrev pub json_leaves : Bool → Json → List (List ℕ × Leaf)
json_leaves expand_dots j = leaves_below expand_dots [] j

-- the leaf of an unsigned number, a signed one if it fits
abbrev pub u64_leaf : ℕ → Leaf
u64_leaf n = if nat_lt n (2 ^ 63) then value_leaf types.I64 (flipped (pos n)) else value_leaf types.U64 n

-- the model of the elements of an array
abbrev pub items_from : List Json → Items
items_from [] = no_items
items_from (j ∷ js) = item j (items_from js)

-- the model of the members of an object
abbrev pub members_from : List (String Global × Json) → Members
members_from [] = no_members
members_from (m ∷ ms) = member (string_bytes m.0) m.1 (members_from ms)

-- one level of a value, given the models of its parts
abbrev pub json_step : JsonValue-F Json → Json
json_step JsonValue-F.Null = null
json_step (JsonValue-F.Str s) = leaf (text_leaf (string_bytes s))
json_step (JsonValue-F.U64 n) = leaf (u64_leaf n)
json_step (JsonValue-F.I64 z) = leaf (value_leaf types.I64 (flipped z))
json_step (JsonValue-F.Bool b) = leaf (value_leaf types.Bool (number_of_bool b))
json_step (JsonValue-F.Date z) = leaf (value_leaf types.Date (flipped (whole_seconds z)))
json_step (JsonValue-F.F64Bits bits) = leaf (unsupported kinds.Float)
json_step JsonValue-F.PreTok = leaf (unsupported kinds.PreTok)
json_step JsonValue-F.Bytes = leaf (unsupported kinds.Bytes)
json_step JsonValue-F.Facet = leaf (unsupported kinds.Facet)
json_step JsonValue-F.Ip = leaf (unsupported kinds.Ip)
json_step (JsonValue-F.Array v) = array (items_from v.items)
json_step (JsonValue-F.Object v) = object (members_from v.items)

-- the model of a value
abbrev pub json_of : JsonValue → Json
json_of = fold-JsonValue Json json_step

-- the model of a leaf
abbrev pub leaf_of : JsonLeaf → Leaf
leaf_of (Text text) = text_leaf text.now
leaf_of (Value t n) = value_leaf t n
leaf_of (Unsupported kind) = unsupported kind

-- the leaf of a value, if it is one
abbrev pub leaf_at : Json → Option Leaf
leaf_at null = None
leaf_at (leaf l) = Some l
leaf_at (array is) = None
leaf_at (object ms) = None
