-- The members of a line with some names, as the text of an object.
use Rattle.std.specs.Prelude.{◌≡◌, ◌≤◌, ℕ, Bool, true, false, List, [], ◌∷◌, ◌++◌, map, Option, None, Some, unwrap_or}
use Rattle.std.specs.Borrow.{Bor}
use Rattle.serde_json.specs.Data.{Data, Members, array, boolean, depth, member, no_members, null, number, object, string}
use Rattle.serde_json.specs.Find.{get}
use Rattle.serde_json.specs.Read.{max_depth, read}
use Rattle.serde_json.specs.Written.{comma_if, compact_text, has_float}
use Rattle.ii_documents.specs.declared.line_fields.NullMembers.{NullMembers}
use Rattle.ii_documents.specs.declared.line_fields.NullMembers.TheVariants.{Keep, LeaveOut}

-- borrowed names as lists of bytes
abbrev pub names_of : List (Bor (List ℕ)) → List (List ℕ)
names_of names = map (λ (name : Bor (List ℕ)). name.now) names

-- the value of a line, null if it isn't JSON
abbrev pub value_of_line : List ℕ → Data
value_of_line line = unwrap_or (read line) null

-- a member before others, if there is a value
abbrev pub with_member : List ℕ → Option Data → Members → Members
with_member name None ms = ms
with_member name (Some d) ms = member name d ms

-- a value, unless it is null and such members are left out
abbrev pub unless_null : NullMembers → Option Data → Option Data
unless_null Keep found = found
unless_null LeaveOut None = None
unless_null LeaveOut (Some null) = None
unless_null LeaveOut (Some (boolean b)) = Some (boolean b)
unless_null LeaveOut (Some (number n)) = Some (number n)
unless_null LeaveOut (Some (string s)) = Some (string s)
unless_null LeaveOut (Some (array ds)) = Some (array ds)
unless_null LeaveOut (Some (object ms)) = Some (object ms)

-- the members of a value with these names, in the order of the names; a name that it doesn't have is left out
abbrev pub chosen : NullMembers → List (List ℕ) → Data → Members
chosen nulls [] d = no_members
chosen nulls (name ∷ names) d = with_member name (unless_null nulls (get name d)) (chosen nulls names d)

-- A text of a value: the one without spaces if it has no floating-point number, and one that is read as the value.
pub record IsValueText (d : Data) (text : List ℕ) : Type 0 where
  pub compact : has_float d ≡ false → text ≡ compact_text d
  pub reads : depth d ≤ max_depth → read text ≡ Some d

-- A text of the members of an object, with its closing bracket, which may come after other members.
abbrev pub IsMembersText : Bool → Members → List ℕ → Type 0
IsMembersText later no_members text = text ≡ 125 ∷ []
IsMembersText later (member name d ms) text = (t : List ℕ) × (others : List ℕ) × IsValueText d t × IsMembersText true ms others × (text ≡ comma_if later ++ (compact_text (string name) ++ 58 ∷ (t ++ others)))

-- A text of an object with these members.
abbrev pub IsObjectText : Members → List ℕ → Type 0
IsObjectText ms text = (t : List ℕ) × IsMembersText false ms t × (text ≡ 123 ∷ t)

-- A text continues with a member, if there is a value: whatever members follow.
abbrev pub AddsMember : Bool → List ℕ → Option Data → List ℕ → Bool → List ℕ → Type 0
AddsMember later name found old now new =
    (piece : List ℕ) × (new ≡ old ++ piece) × ((ms : Members) (others : List ℕ) → IsMembersText now ms others → IsMembersText later (with_member name found ms) (piece ++ others))
