-- JSON values of a line and those that an index takes, level by level.
use Rattle.std.proofs.Common.{◌≡◌, ℕ, List, [], ◌∷◌, map, refl, ap, String, Global, string_bytes}
use Rattle.serde_json.specs.View.{items_view, members_view, view}
use Rattle.serde_json.specs.declared.value.Value.{Value}
use Rattle.ii_base.specs.Json.{Json, Members, item, items_from as items_made, json_of, member, members_from as members_made, no_members}
use Rattle.ii_base.specs.declared.json_value.JsonValue.{JsonValue}
use Rattle.ii_documents.specs.Floats.{items_without_floats, members_without_floats, without_floats}
use Rattle.ii_documents.specs.JsonValues.{items_from, json_from, members_from}

-- a member of a line, and one that was made, by its key's bytes
abbrev pub given_pair : String Global × Value → List ℕ × Json
given_pair e = (string_bytes e.0, json_from (without_floats (view e.1)))

abbrev pub made_pair : String Global × JsonValue → List ℕ × Json
made_pair m = (string_bytes m.0, json_of m.1)

-- members by their keys' bytes
abbrev pub of_pairs : List (List ℕ × Json) → Members
of_pairs [] = no_members
of_pairs (m ∷ ms) = member m.0 m.1 (of_pairs ms)

pub items_are : (vs : List Value) → items_made (map (λ v. json_from (without_floats (view v))) vs) ≡ items_from (items_without_floats (items_view vs))
items_are [] = refl
items_are (v ∷ vs) = ap (item (json_from (without_floats (view v)))) (items_are vs)

pub given_members : (es : List (String Global × Value)) → of_pairs (map given_pair es) ≡ members_from (members_without_floats (members_view es))
given_members [] = refl
given_members (e ∷ es) = ap (member (string_bytes e.0) (json_from (without_floats (view e.1)))) (given_members es)

pub made_members : (ms : List (String Global × JsonValue)) → of_pairs (map made_pair ms) ≡ members_made (map (λ m. (m.0, json_of m.1)) ms)
made_members [] = refl
made_members (m ∷ ms) = ap (member (string_bytes m.0) (json_of m.1)) (made_members ms)
