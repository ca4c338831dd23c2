-- What is stored of a line.
use Rattle.std.specs.Prelude.{◌≡◌, ◌≤◌, ◌^◌, ℕ, Bool, true, false, List, length}
use Rattle.ii_base.specs.Schema.{SchemaEntry}
use Rattle.ii_schema_text.specs.Stored.{StoredState, stored_names}
use Rattle.ii_documents.specs.declared.line_fields.NullMembers.TheVariants.{LeaveOut}
use Rattle.ii_documents.specs.LineFields.{IsObjectText, chosen, value_of_line}

-- A record is the line, or a text of the object of its members with these names that aren't null.
abbrev pub IsRecordBy : Bool → List (List ℕ) → List ℕ → List ℕ → Type 0
IsRecordBy true names line r = r ≡ line
IsRecordBy false names line r = IsObjectText (chosen LeaveOut names (value_of_line line)) r

-- The record of a line: the line, or a text of the object of its members whose fields are stored, in the order of the schema.
abbrev pub IsRecordOf : StoredState → List SchemaEntry → List ℕ → List ℕ → Type 0
IsRecordOf s es line r = IsRecordBy s.is_line (stored_names s.fields es) line r

-- The record of a line is too long to be stored.
abbrev pub HasLongRecord : StoredState → List SchemaEntry → List ℕ → Type 0
HasLongRecord s es line = (r : List ℕ) × IsRecordOf s es line r × (2 ^ 31 ≤ length r)
