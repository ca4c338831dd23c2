-- The names of files, and their numbers.
use Rattle.std.specs.Prelude.{ℕ, zero, suc, ◌+◌, ◌*◌, ◌-◌, ◌/◌, ◌%◌, ◌^◌, ◌<◌, ◌==◌, ◌&&◌, Bool, List, [], ◌∷◌, ◌++◌, codes, length, nat_lt, ◌≡◌, if◌then◌else◌}
use Rattle.ii_directory.specs.declared.name.Slot.{Slot}
use Rattle.ii_directory.specs.declared.name.Slot.TheVariants.{First, Second}
use Rattle.ii_directory.specs.declared.name.Kind.{Kind}
use Rattle.ii_directory.specs.declared.name.Kind.TheVariants.{Schema, Terms, Postings, Positions, FieldNorms}
use Rattle.ii_directory.specs.declared.name.Name.{Name}
use Rattle.ii_directory.specs.declared.name.Name.TheVariants.{Meta, NewMeta, File, Segment}
use Rattle.ii_directory.specs.declared.name.SegmentComponent.{SegmentComponent}
use Rattle.ii_directory.specs.declared.name.SegmentComponent.TheVariants as components

-- the other slot
abbrev pub other_slot : Slot → Slot
other_slot First = Second
other_slot Second = First

-- the byte of a slot
abbrev pub slot_number : Slot → ℕ
slot_number First = 0
slot_number Second = 1

-- the index of a kind among the entries of a `meta` file
abbrev pub kind_number : Kind → ℕ
kind_number Schema = 0
kind_number Terms = 1
kind_number Postings = 2
kind_number Positions = 3
kind_number FieldNorms = 4

-- the kind at an index
abbrev pub kind_at : ℕ → Kind
kind_at zero = Schema
kind_at (suc zero) = Terms
kind_at (suc (suc zero)) = Postings
kind_at (suc (suc (suc zero))) = Positions
kind_at (suc (suc (suc (suc _)))) = FieldNorms

-- the number of a component in a `meta` file
abbrev pub component_number : SegmentComponent → ℕ
component_number components.Terms = 0
component_number components.Postings = 1
component_number components.Positions = 2
component_number components.FieldNorms = 3
component_number components.Counts = 4
component_number (components.Alive _) = 5
component_number components.Store = 6
component_number components.BlockTables = 7

-- the generation of an alive file, and 0 for any other
abbrev pub component_generation : SegmentComponent → ℕ
component_generation components.Terms = 0
component_generation components.Postings = 0
component_generation components.Positions = 0
component_generation components.FieldNorms = 0
component_generation components.Counts = 0
component_generation (components.Alive generation) = generation
component_generation components.Store = 0
component_generation components.BlockTables = 0

-- whether two components are equal
abbrev pub same_component : SegmentComponent → SegmentComponent → Bool
same_component component other = (component_number component == component_number other) && (component_generation component == component_generation other)

-- the number of a name; files of segments have one for each component
abbrev pub name_number : Name → ℕ
name_number Meta = 0
name_number NewMeta = 1
name_number (File slot kind) = 2 + 5 * slot_number slot + kind_number kind
name_number (Segment _ component) = 12 + component_number component

-- the number of the segment, and 0 for a file of no segment
abbrev pub name_id : Name → ℕ
name_id Meta = 0
name_id NewMeta = 0
name_id (File _ _) = 0
name_id (Segment id _) = id

-- the generation of an alive file, and 0 for any other
abbrev pub name_generation : Name → ℕ
name_generation Meta = 0
name_generation NewMeta = 0
name_generation (File _ _) = 0
name_generation (Segment _ component) = component_generation component

-- whether two names are equal
abbrev pub same_name : Name → Name → Bool
same_name name other = (name_number name == name_number other) && (name_id name == name_id other) && (name_generation name == name_generation other)

-- the numbers in a name have 64 bits
abbrev pub HasWords : Name → Type 0
HasWords name = (name_id name < 2 ^ 64) × (name_generation name < 2 ^ 64)

-- a lowercase hexadecimal digit
abbrev pub hex_digit : ℕ → ℕ
hex_digit d = if nat_lt d 10 then 48 + d else 97 + (d - 10)

-- the last digits of a number in hexadecimal, this many, the highest first
unfoldable pub hex_digits : ℕ → ℕ → List ℕ
hex_digits zero number = []
hex_digits (suc count) number = hex_digits count (number / 16) ++ hex_digit (number % 16) ∷ []

-- These hexadecimal digits, the highest first, are a number.
pub record IsNumber (text : List ℕ) (number : ℕ) : Type 0 where
  pub digits : hex_digits (length text) number ≡ text
  pub below : number < 16 ^ length text

-- the part of a file name after the segment's number
abbrev pub component_text : SegmentComponent → List ℕ
component_text components.Terms = codes ".term"
component_text components.Postings = codes ".idx"
component_text components.Positions = codes ".pos"
component_text components.FieldNorms = codes ".norm"
component_text components.Counts = codes ".count"
component_text (components.Alive generation) = codes "." ++ hex_digits 16 generation ++ codes ".alive"
component_text components.Store = codes ".store"
component_text components.BlockTables = codes ".blocks"

-- the file name in a folder
abbrev pub name_text : Name → List ℕ
name_text Meta = codes "meta"
name_text NewMeta = codes "meta.new"
name_text (File First Schema) = codes "schema.0"
name_text (File First Terms) = codes "term.0"
name_text (File First Postings) = codes "idx.0"
name_text (File First Positions) = codes "pos.0"
name_text (File First FieldNorms) = codes "fieldnorm.0"
name_text (File Second Schema) = codes "schema.1"
name_text (File Second Terms) = codes "term.1"
name_text (File Second Postings) = codes "idx.1"
name_text (File Second Positions) = codes "pos.1"
name_text (File Second FieldNorms) = codes "fieldnorm.1"
name_text (Segment id component) = hex_digits 16 id ++ component_text component
