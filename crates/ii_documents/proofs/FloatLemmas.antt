-- Floating-point numbers in JSON values.
use Rattle.std.proofs.Common.{◌≡◌, ◌&&◌, Bool, true, false, Ok, Err, ap, refl}
use Rattle.std.proofs.lemmas.Bool.{or_parts}
use Rattle.serde_json.specs.Data.{Data, Items, Members, array, boolean, float, item, member, negative, no_items, no_members, null, number, object, string, unsigned}
use Rattle.serde_json.specs.Written.{has_float, items_have_float, members_have_float}
use Rattle.ii_base.specs.Json.{json_leaves}
use Rattle.ii_definitions.specs.Tokens.{leaves}
use Rattle.ii_documents.specs.declared.faults.ValueFault.TheVariants as value_faults
use Rattle.ii_documents.specs.declared.floats.FloatNumbers.{FloatNumbers}
use Rattle.ii_documents.specs.declared.floats.FloatNumbers.TheVariants.{Refuse, Skip}
use Rattle.ii_documents.specs.Floats.{items_without_floats, members_without_floats, refuses, without_floats}
use Rattle.ii_documents.specs.JsonLines.{json_content}
use Rattle.ii_documents.specs.JsonValues.{json_from}

-- a value without floating-point numbers stays as it is
mutual
  same_value : (d : Data) → has_float d ≡ false → without_floats d ≡ d
  same_value null none = refl
  same_value (boolean b) none = refl
  same_value (number (unsigned n)) none = refl
  same_value (number (negative z)) none = refl
  same_value (number (float x)) none = absurd (cc)
  same_value (string s) none = refl
  same_value (array ds) none = ap array (same_items ds none)
  same_value (object ms) none = ap object (same_members ms none)

  same_items : (ds : Items) → items_have_float ds ≡ false → items_without_floats ds ≡ ds
  same_items no_items none = refl
  same_items (item d ds) none =
      let h = or_parts (has_float d) (items_have_float ds) none in
      rw (same_value d h.0, same_items ds h.1) refl

  same_members : (ms : Members) → members_have_float ms ≡ false → members_without_floats ms ≡ ms
  same_members no_members none = refl
  same_members (member key d ms) none =
      let h = or_parts (has_float d) (members_have_float ms) none in
      rw (same_value d h.0, same_members ms h.1) refl

-- a JSON value that is taken, and one that is refused
pub json_taken : (floats : FloatNumbers) (dots : Bool) (d : Data) → (refuses floats && has_float d) ≡ false → json_content floats dots d ≡ Ok (leaves (json_leaves dots (json_from (without_floats d))))
json_taken Refuse dots d none = rw (none, same_value d none) refl
json_taken Skip dots d none = refl

pub json_refused : (floats : FloatNumbers) (dots : Bool) (d : Data) → (refuses floats && has_float d) ≡ true → json_content floats dots d ≡ Err value_faults.Float
json_refused Refuse dots d some = rw some refl
json_refused Skip dots d some = absurd (cc)
