-- The places of lines, as members of their objects.
use Rattle.std.specs.Prelude.{◌≡◌, ◌-◌, ℕ, Bool, true, false, List, [], ◌∷◌, ◌++◌, decimal, if◌then◌else◌, length, nat_eq, take}
use Rattle.std.specs.List.{ends_with}
use Rattle.std.specs.Str.{IsTrimAscii, IsTrimAsciiEnd}
use Rattle.std.specs.Str.Parse.{IsNumeral, digits_value, without_leading_plus}
use Rattle.serde_json.specs.Data.{string}
use Rattle.serde_json.specs.Written.{compact_text}

-- the text of a place: a file, a number of a line and a byte, with colons between them
abbrev pub place_text : List ℕ → ℕ → ℕ → List ℕ
place_text file line byte = file ++ 58 ∷ (decimal line ++ 58 ∷ decimal byte)

-- Digits are those of a number, perhaps after a plus.
abbrev pub Spells : List ℕ → ℕ → Type 0
Spells text n = IsNumeral 10 (without_leading_plus text) × (digits_value 10 (without_leading_plus text) ≡ n)

-- A text names a file, a number of a line and a byte, with colons between them.
abbrev pub IsPlaceOf : List ℕ → List ℕ → ℕ → ℕ → Type 0
IsPlaceOf text file line byte = (first second : List ℕ) × (text ≡ file ++ 58 ∷ (first ++ 58 ∷ second)) × Spells first line × Spells second byte

-- a comma after members; none after the brace that an object begins with
abbrev pub comma_after : List ℕ → List ℕ
comma_after members = if ends_with nat_eq members (123 ∷ []) then [] else 44 ∷ []

-- a last member with a text, and the end of its object
abbrev pub last_member : List ℕ → List ℕ → List ℕ
last_member name text = compact_text (string name) ++ 58 ∷ (compact_text (string text) ++ 125 ∷ [])

-- A text is that of an object with one member more, the last one, given the text of the object without the brace at its end.
abbrev pub HasLastMember : List ℕ → List ℕ → List ℕ → List ℕ → Type 0
HasLastMember name text members object = (m : List ℕ) × IsTrimAsciiEnd members m × (object ≡ members ++ comma_after m ++ last_member name text)

-- A text is that of an object with one member more, given the object's text; or the line, if the text doesn't end with a brace.
abbrev pub HasMemberIf : List ℕ → List ℕ → List ℕ → List ℕ → List ℕ → Bool → Type 0
HasMemberIf name text line object whole true = HasLastMember name text (take (length whole - 1) whole) object
HasMemberIf name text line object whole false = object ≡ line

-- A text is that of a line's object with one member more, a name and a text; or the line, if that doesn't end as an object does. White space around the line is left out.
abbrev pub HasMember : List ℕ → List ℕ → List ℕ → List ℕ → Type 0
HasMember name text line object = (whole : List ℕ) × IsTrimAscii line whole × HasMemberIf name text line object whole (ends_with nat_eq whole (125 ∷ []))
