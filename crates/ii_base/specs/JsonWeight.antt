-- What a JSON value weighs while it is let go. Each step of its drop leaves less.
use Rattle.std.specs.Prelude.{ℕ, ◌+◌, ◌*◌, ◌<◌, List, [], ◌∷◌, map, sum, String}
use Rattle.std.specs.Vec.{vec_len, vec_capacity}
use Rattle.std.specs.declared.alloc.Global.{Global}
use Rattle.ii_base.specs.declared.json_value.JsonValue.{JsonValue, fold-JsonValue}
use Rattle.ii_base.specs.declared.json_value.JsonValue.TheOpen.{JsonValue-F}
use Rattle.ii_base.specs.declared.json_value.OpenBranch.{OpenBranch}
use Rattle.ii_base.specs.declared.json_value.OpenBranch.TheVariants.{Array, Object}

-- The weight of children: the first counts once and each other child twice.
abbrev pub children_weight : List ℕ → ℕ
children_weight [] = 0
children_weight (n ∷ ns) = n + 2 * sum ns

-- the weights of values that have keys
abbrev pub weights_of : List (String Global × ℕ) → List ℕ
weights_of members = map (λ m. m.1) members

-- the weight of one level of a value, given those of its children
abbrev pub weight_step : JsonValue-F ℕ → ℕ
weight_step JsonValue-F.Null = 1
weight_step (JsonValue-F.Str s) = 1
weight_step (JsonValue-F.U64 n) = 1
weight_step (JsonValue-F.I64 z) = 1
weight_step (JsonValue-F.Bool b) = 1
weight_step (JsonValue-F.Date z) = 1
weight_step (JsonValue-F.F64Bits bits) = 1
weight_step JsonValue-F.PreTok = 1
weight_step JsonValue-F.Bytes = 1
weight_step JsonValue-F.Facet = 1
weight_step JsonValue-F.Ip = 1
weight_step (JsonValue-F.Array v) = 1 + children_weight v.items
weight_step (JsonValue-F.Object v) = 1 + children_weight (weights_of v.items)

-- the weight of a value
abbrev pub weight : JsonValue → ℕ
weight = fold-JsonValue ℕ weight_step

-- the weights of the values of members
abbrev pub member_weights : List (String Global × JsonValue) → List ℕ
member_weights members = weights_of (map (λ m. (m.0, weight m.1)) members)

-- the weights of the children that an open branch still holds
abbrev pub held_weights : OpenBranch → List ℕ
held_weights (Array v) = map weight v.items
held_weights (Object v key) = member_weights v.items

-- An open branch takes one more child without memory.
abbrev pub HasRoom : OpenBranch → Type 0
HasRoom (Array v) = vec_len v < vec_capacity v
HasRoom (Object v key) = vec_len v < vec_capacity v
