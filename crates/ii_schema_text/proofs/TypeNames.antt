-- The name of a type names it.
use Rattle.std.proofs.Common.{◌≡◌, ◌∙◌, List, ℕ, Some, ap, refl}
use Rattle.ii_base.specs.declared.schema.value_type.ValueType.{ValueType}
use Rattle.ii_schema_text.specs.declared.field_type.FieldType.{FieldType}
use Rattle.ii_schema_text.specs.declared.field_type.FieldType.TheVariants.{Text, U64, I64, Bool, Date, Bytes, IpAddr, Json}
use Rattle.ii_schema_text.specs.SchemaText.{value_type_of}
use Rattle.ii_schema_text.specs.Settings.{type_name, type_named}

names : (t : FieldType) → type_named (type_name (value_type_of t)) ≡ Some t
unfolding type_named
names Text = refl
names U64 = refl
names I64 = refl
names Bool = refl
names Date = refl
names Bytes = refl
names IpAddr = refl
names Json = refl

pub named_again : (value_type : ValueType) (name : List ℕ) (t : FieldType) → name ≡ type_name value_type → value_type ≡ value_type_of t → type_named name ≡ Some t
named_again value_type name t is of = ap type_named (is ∙ ap type_name of) ∙ names t
