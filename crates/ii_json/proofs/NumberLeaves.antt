-- The values of a JSON value's leaves are numbers.
use Rattle.std.proofs.Common.{◌≡◌, ℕ, ◌^◌, Bool, true, false, pos, Some, Option, refl, sym, subst}
use Rattle.std.specs.Prelude.{IfSome, if◌then◌else◌, nat_lt}
use Rattle.ii_base.specs.Json.{Json, Leaf, json_of, json_step, leaf_at, leaf_of, u64_leaf, value_leaf}
use Rattle.ii_base.specs.Values.{flipped}
use Rattle.ii_base.specs.declared.json_value.JsonLeaf.{JsonLeaf}
use Rattle.ii_base.specs.declared.json_value.JsonValue.{JsonValue}
use Rattle.ii_base.specs.declared.json_value.JsonValue.TheOpen.{JsonValue-F}
use Rattle.ii_base.specs.declared.json_value.JsonValue.TheFolds.{fold_out-JsonValue}
use Rattle.ii_base.specs.declared.schema.value_type.ValueType.TheVariants as types
use Rattle.ii_json.specs.LeafVisit.{may_be_leaf}

u64_number : (n : ℕ) → may_be_leaf (u64_leaf n) ≡ true
u64_number n = by (nat_lt n (2 ^ 63))
  where
    by : (b : Bool) → may_be_leaf (if b then value_leaf types.I64 (flipped (pos n)) else value_leaf types.U64 n) ≡ true
    by true = refl
    by false = refl

numbers_in : (f : JsonValue-F Json) → IfSome (leaf_at (json_step f)) (λ (l : Leaf). may_be_leaf l ≡ true)
numbers_in JsonValue-F.Null = tt
numbers_in (JsonValue-F.Str s) = refl
numbers_in (JsonValue-F.U64 n) = u64_number n
numbers_in (JsonValue-F.I64 z) = refl
numbers_in (JsonValue-F.Bool b) = refl
numbers_in (JsonValue-F.Date z) = refl
numbers_in (JsonValue-F.F64Bits bits) = refl
numbers_in JsonValue-F.PreTok = refl
numbers_in JsonValue-F.Bytes = refl
numbers_in JsonValue-F.Facet = refl
numbers_in JsonValue-F.Ip = refl
numbers_in (JsonValue-F.Array v) = tt
numbers_in (JsonValue-F.Object v) = tt

numbers : (value : JsonValue) → IfSome (leaf_at (json_of value)) (λ (l : Leaf). may_be_leaf l ≡ true)
numbers value = subst (λ (j : Json). IfSome (leaf_at j) (λ (l : Leaf). may_be_leaf l ≡ true)) (sym (fold_out-JsonValue Json json_step value)) (numbers_in _)

pub leaf_taken : (value : JsonValue) (leaf : JsonLeaf) → Some (leaf_of leaf) ≡ leaf_at (json_of value) → may_be_leaf (leaf_of leaf) ≡ true
leaf_taken value leaf is = subst (λ (o : Option Leaf). IfSome o (λ (l : Leaf). may_be_leaf l ≡ true)) (sym is) (numbers value)
