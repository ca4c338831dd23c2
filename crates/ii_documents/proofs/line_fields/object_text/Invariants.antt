use Rattle.std.proofs.Common.{ℕ, ◌++◌, List, string_bytes, drop}
use Rattle.serde_json.specs.View.{view}
use Rattle.ii_documents.specs.LineFields.{IsMembersText, IsObjectText, chosen, names_of}
use Rattle.ii_documents.proofs.line_fields.object_text.Given as goal

-- the text becomes that of the object with the members of the names that are left
abbrev pub invariant-loop-name : goal.invariant-loop-name
invariant-loop-name l = (others : List ℕ) → IsMembersText l.has_some (chosen l.fn.nulls (names_of (drop l.name-index l.names)) (view l.value)) others → IsObjectText (chosen l.fn.nulls (names_of l.names) (view l.value)) (string_bytes l.text ++ others)
