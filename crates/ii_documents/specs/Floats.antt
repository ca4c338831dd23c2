-- Floating-point numbers in JSON values, which no index holds.
use Rattle.std.specs.Prelude.{ℕ, ◌+◌, ◌&&◌, Bool, true, false, List, Option, None, Some, if◌then◌else◌, min, option_and_then, sum_by}
use Rattle.std.specs.Result.{result_ok}
use Rattle.serde_json.specs.Data.{Data, Items, Members, array, boolean, item, member, no_items, no_members, null, number, object, string}
use Rattle.serde_json.specs.Find.{as_object, get_member, is_float}
use Rattle.serde_json.specs.Read.{read}
use Rattle.ii_base.specs.Schema.{SchemaEntry}
use Rattle.ii_definitions.specs.JsonKeys.{is_json}
use Rattle.ii_documents.specs.declared.floats.FloatNumbers.{FloatNumbers}
use Rattle.ii_documents.specs.declared.floats.FloatNumbers.TheVariants.{Refuse, Skip}

-- a value in which each floating-point number is `null`
abbrev mutual
  pub without_floats : Data → Data
  without_floats null = null
  without_floats (boolean b) = boolean b
  without_floats (number n) = if is_float n then null else number n
  without_floats (string s) = string s
  without_floats (array ds) = array (items_without_floats ds)
  without_floats (object ms) = object (members_without_floats ms)

  pub items_without_floats : Items → Items
  items_without_floats no_items = no_items
  items_without_floats (item d ds) = item (without_floats d) (items_without_floats ds)

  pub members_without_floats : Members → Members
  members_without_floats no_members = no_members
  members_without_floats (member key d ms) = member key (without_floats d) (members_without_floats ms)

-- whether they are refused
abbrev pub refuses : FloatNumbers → Bool
refuses Refuse = true
refuses Skip = false

-- how many floating-point numbers a value has
abbrev mutual
  pub floats_in : Data → ℕ
  floats_in null = 0
  floats_in (boolean b) = 0
  floats_in (number n) = if is_float n then 1 else 0
  floats_in (string s) = 0
  floats_in (array ds) = items_floats ds
  floats_in (object ms) = members_floats ms

  pub items_floats : Items → ℕ
  items_floats no_items = 0
  items_floats (item d ds) = floats_in d + items_floats ds

  pub members_floats : Members → ℕ
  members_floats no_members = 0
  members_floats (member key d ms) = floats_in d + members_floats ms

-- how many of them the value under the name of a field has, if the field is indexed and has JSON values
abbrev pub field_floats : SchemaEntry → Option Data → ℕ
field_floats e None = 0
field_floats e (Some d) = if e.is_indexed && is_json e.value_type then floats_in d else 0

-- how many of them are left out of the members of a document
abbrev pub skipped_in_members : FloatNumbers → List SchemaEntry → Members → ℕ
skipped_in_members Refuse es ms = 0
skipped_in_members Skip es ms = sum_by (λ (e : SchemaEntry). field_floats e (get_member e.name ms)) es

-- the same where there are no members
abbrev pub skipped_in_object : FloatNumbers → List SchemaEntry → Option Members → ℕ
skipped_in_object floats es None = 0
skipped_in_object floats es (Some ms) = skipped_in_members floats es ms

-- how many of them are left out of a line
unfoldable pub skipped_in_line : FloatNumbers → List SchemaEntry → List ℕ → ℕ
skipped_in_line floats es line = skipped_in_object floats es (option_and_then as_object (read line))

-- a count, which ends at 2^64 - 1
abbrev pub counted : ℕ → ℕ
counted n = min n 18_446_744_073_709_551_615
