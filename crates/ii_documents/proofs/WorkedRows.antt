-- What members give, by hand.
use Rattle.std.proofs.Common.{◌≡◌, ℕ, List, true, false, [], ◌∷◌, Ok, Err, codes, refl}
use Rattle.std.specs.Prelude.{Float, negsuc}
use Rattle.serde_json.specs.Data.{Members, array, boolean, float, item, member, negative, no_items, no_members, null, number, object, string, unsigned}
use Rattle.ii_base.specs.Schema.{SchemaEntry}
use Rattle.ii_base.specs.declared.schema.index_record_option.IndexRecordOption.TheVariants.{Basic}
use Rattle.ii_base.specs.declared.schema.value_type.ValueType.{ValueType}
use Rattle.ii_base.specs.declared.schema.value_type.ValueType.TheVariants as types
use Rattle.ii_definitions.specs.Tokens.{Call, Content, text, value}
use Rattle.ii_documents.specs.declared.faults.ValueFault.TheVariants as faults
use Rattle.ii_schema_text.specs.declared.unknown_keys.UnknownKeys.TheVariants.{Ignore, Refuse}
use Rattle.ii_dates.proofs.OnLiterals.{dates_on_literals}
use Rattle.ii_documents.specs.declared.floats.FloatNumbers.TheVariants as floats
use Rattle.ii_documents.specs.Floats.{skipped_in_members}
use Rattle.ii_documents.specs.JsonLines.{members_calls, read_members, unknown_key, wrong_value}
use Rattle.ii_documents.specs.declared.line_fields.NullMembers.TheVariants.{Keep, LeaveOut}
use Rattle.ii_documents.specs.LineFields.{chosen}
use Rattle.ii_schema_text.specs.Stored.{stored_names}

abbrev entry : ValueType → SchemaEntry
entry t = record { name = codes "a"; value_type = t; option = Basic; is_indexed = true; has_fieldnorms = false; expands_dots = false }

abbrev call : ℕ → Content → Call
call doc content = record { doc = doc; field = 0; content = content }

-- an array has several texts
texts : members_calls floats.Refuse (entry types.Str ∷ []) 7 (member (codes "a") (array (item (string (codes "x y")) (item (string (codes "z")) no_items))) no_members) ≡ Ok (call 7 (text (codes "x y")) ∷ call 7 (text (codes "z")) ∷ [])
unfolding members_calls
texts = refl

-- null has none
nothing : members_calls floats.Refuse (entry types.Str ∷ []) 7 (member (codes "a") null no_members) ≡ Ok []
unfolding members_calls
nothing = refl

-- a truth value by its number
truth : members_calls floats.Refuse (entry types.Bool ∷ []) 2 (member (codes "a") (boolean true) no_members) ≡ Ok (call 2 (value (0 ∷ 0 ∷ 0 ∷ 0 ∷ 0 ∷ 0 ∷ 0 ∷ 1 ∷ [])) ∷ [])
unfolding members_calls
truth = refl

-- a 16-bit number by its bytes, and -1 by the number that represents it
unsigned_number : members_calls floats.Refuse (entry types.U64 ∷ []) 2 (member (codes "a") (number (unsigned 258)) no_members) ≡ Ok (call 2 (value (0 ∷ 0 ∷ 0 ∷ 0 ∷ 0 ∷ 0 ∷ 1 ∷ 2 ∷ [])) ∷ [])
unfolding members_calls
unsigned_number = refl

signed_number : members_calls floats.Refuse (entry types.I64 ∷ []) 2 (member (codes "a") (number (negative (negsuc 0))) no_members) ≡ Ok (call 2 (value (127 ∷ 255 ∷ 255 ∷ 255 ∷ 255 ∷ 255 ∷ 255 ∷ 255 ∷ [])) ∷ [])
unfolding members_calls
signed_number = refl

-- what is refused, and why
below_zero : members_calls floats.Refuse (entry types.U64 ∷ []) 2 (member (codes "a") (number (negative (negsuc 0))) no_members) ≡ Err (wrong_value 0 faults.OutOfRange)
unfolding members_calls
below_zero = refl

no_text : members_calls floats.Refuse (entry types.Str ∷ []) 2 (member (codes "a") (object no_members) no_members) ≡ Err (wrong_value 0 faults.WrongType)
unfolding members_calls
no_text = refl

stranger : members_calls floats.Refuse (entry types.Str ∷ []) 2 (member (codes "a") (boolean true) (member (codes "b") null no_members)) ≡ Err (unknown_key (codes "b"))
unfolding members_calls
stranger = refl

-- unknown keys are ignored, whatever their values
ignored : read_members Ignore (entry types.Str ∷ []) (member (codes "0") (object no_members) (member (codes "a") (string (codes "x")) (member (codes "b") null no_members))) ≡ member (codes "a") (string (codes "x")) no_members
ignored = refl

refused : read_members Refuse (entry types.Str ∷ []) (member (codes "a") (boolean true) (member (codes "b") null no_members)) ≡ member (codes "a") (boolean true) (member (codes "b") null no_members)
refused = refl

-- a value of a field is refused as before
ignored_beside_no_text : members_calls floats.Refuse (entry types.Str ∷ []) 2 (read_members Ignore (entry types.Str ∷ []) (member (codes "a") (boolean true) (member (codes "b") null no_members))) ≡ Err (wrong_value 0 faults.WrongType)
unfolding members_calls
ignored_beside_no_text = refl

-- a date by its nanoseconds: 631,152,000,000,000,000 and 2^63 are 88C24D6667470000
date : members_calls floats.Refuse (entry types.Date ∷ []) 2 (member (codes "a") (string (codes "1990-01-01T00:00:00Z")) no_members) ≡ Ok (call 2 (value (0x88 ∷ 0xC2 ∷ 0x4D ∷ 0x66 ∷ 0x67 ∷ 0x47 ∷ 0 ∷ 0 ∷ [])) ∷ [])
unfolding members_calls dates_on_literals
date = refl

no_date : members_calls floats.Refuse (entry types.Date ∷ []) 2 (member (codes "a") (string (codes "1990-01-01")) no_members) ≡ Err (wrong_value 0 faults.NotADate)
unfolding members_calls dates_on_literals
no_date = refl

-- a floating-point number in a JSON value is refused, or left out and counted; in a field of numbers it is refused
abbrev mixed : Float → Members
mixed x = member (codes "a") (array (item (number (float x)) (item (boolean true) no_items))) no_members

abbrev left : Members
left = member (codes "a") (array (item null (item (boolean true) no_items))) no_members

refused_float : (x : Float) → members_calls floats.Refuse (entry types.Json ∷ []) 2 (mixed x) ≡ Err (wrong_value 0 faults.Float)
unfolding members_calls
refused_float x = refl

skipped_float : (x : Float) → members_calls floats.Skip (entry types.Json ∷ []) 2 (mixed x) ≡ members_calls floats.Refuse (entry types.Json ∷ []) 2 left
unfolding members_calls
skipped_float x = refl

counted_float : (x : Float) → skipped_in_members floats.Skip (entry types.Json ∷ []) (mixed x) ≡ 1
counted_float x = refl

fraction : (x : Float) → members_calls floats.Skip (entry types.U64 ∷ []) 2 (member (codes "a") (number (float x)) no_members) ≡ Err (wrong_value 0 faults.OutOfRange)
unfolding members_calls
fraction x = refl

-- the names of the fields that are stored, in the order of the schema
abbrev named : List ℕ → SchemaEntry
named name = record { name = name; value_type = types.Str; option = Basic; is_indexed = true; has_fieldnorms = false; expands_dots = false }

names_stored : stored_names (false ∷ true ∷ true ∷ []) (named (codes "a") ∷ named (codes "c") ∷ named (codes "b") ∷ []) ≡ codes "c" ∷ codes "b" ∷ []
names_stored = refl

-- fields of which nothing is said aren't stored
none_stored : stored_names (true ∷ []) (named (codes "a") ∷ named (codes "b") ∷ []) ≡ codes "a" ∷ []
none_stored = refl

-- the members of a record: in the order of the names, without those that are null or missing
abbrev line_members : Members
line_members = member (codes "a") (number (unsigned 1)) (member (codes "b") null (member (codes "c") (string (codes "x")) no_members))

members_stored : chosen LeaveOut (codes "c" ∷ codes "b" ∷ codes "d" ∷ codes "a" ∷ []) (object line_members) ≡ member (codes "c") (string (codes "x")) (member (codes "a") (number (unsigned 1)) no_members)
members_stored = refl

-- what is printed of a line has its null
members_printed : chosen Keep (codes "b" ∷ codes "a" ∷ []) (object line_members) ≡ member (codes "b") null (member (codes "a") (number (unsigned 1)) no_members)
members_printed = refl

-- a line that is no object has no members
members_of_a_list : chosen LeaveOut (codes "a" ∷ []) (array (item (number (unsigned 1)) no_items)) ≡ no_members
members_of_a_list = refl
