-- The value of a JSON field for a JSON value of a line.
use Rattle.serde_json.specs.Data.{Data, Num}
use Rattle.serde_json.specs.Data as given
use Rattle.ii_io.specs.declared.faults.LeafKind.TheVariants as kinds
use Rattle.ii_base.specs.Json.{Items, Json, Leaf, Members, array, item, leaf, member, no_items, no_members, null, object, text_leaf, u64_leaf, unsupported, value_leaf}
use Rattle.ii_base.specs.Values.{flipped, number_of_bool}
use Rattle.ii_base.specs.declared.schema.value_type.ValueType.TheVariants as types

-- the leaf of a number
abbrev pub number_leaf : Num → Leaf
number_leaf (given.unsigned n) = u64_leaf n
number_leaf (given.negative z) = value_leaf types.I64 (flipped z)
number_leaf (given.float x) = unsupported kinds.Float

-- the value that an index takes
abbrev mutual
  pub json_from : Data → Json
  json_from given.null = null
  json_from (given.boolean b) = leaf (value_leaf types.Bool (number_of_bool b))
  json_from (given.number n) = leaf (number_leaf n)
  json_from (given.string s) = leaf (text_leaf s)
  json_from (given.array ds) = array (items_from ds)
  json_from (given.object ms) = object (members_from ms)

  pub items_from : given.Items → Items
  items_from given.no_items = no_items
  items_from (given.item d ds) = item (json_from d) (items_from ds)

  pub members_from : given.Members → Members
  members_from given.no_members = no_members
  members_from (given.member key d ms) = member key (json_from d) (members_from ms)
