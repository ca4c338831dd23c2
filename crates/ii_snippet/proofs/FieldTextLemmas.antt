-- Laws of the texts of an object, field by field.
use Rattle.std.proofs.Common.{◌≡◌, ◌∙◌, ℕ, ◌+◌, List, ◌∷◌, ◌++◌, Some, ap, append_assoc, drop, sym}
use Rattle.std.proofs.lemmas.List.{drop_more}
use Rattle.std.proofs.lemmas.Option.{get_or_from_slice_get, slice_get_within}
use Rattle.std.specs.List.{slice_get}
use Rattle.serde_json.specs.Data.{Data}
use Rattle.ii_base.specs.Schema.{SchemaEntry}
use Rattle.ii_snippet.specs.FieldTexts.{FieldTextState, field_texts, texts_from}
use Rattle.ii_snippet.specs.Wanted.{Wanted}

-- what was added, and what is still to come
added_before : {X : Type 0} (old new more rest all now : List X) → new ≡ old ++ more → now ≡ more ++ rest → old ++ now ≡ all → new ++ rest ≡ all
added_before old new more rest all now added step before =
    ap (λ (xs : List _). xs ++ rest) added ∙ append_assoc old more rest ∙ ap (λ (xs : List _). old ++ xs) (sym step) ∙ before

-- the texts of the next field were added
pub field_added : (ws : List Wanted) (d : Data) (es : List SchemaEntry) (id : ℕ) (e : SchemaEntry) (old new all : List FieldTextState) → slice_get es id ≡ Some e
    → new ≡ old ++ field_texts ws d id e
    → old ++ texts_from ws d id (drop id es) ≡ all
    → new ++ texts_from ws d (id + 1) (drop (id + 1) es) ≡ all
field_added ws d es id e old new all found added before =
    let here : drop id es ≡ e ∷ drop (id + 1) es = drop_more es id e (slice_get_within es id e found) ∙ ap (λ (x : SchemaEntry). x ∷ drop (id + 1) es) (get_or_from_slice_get es id e e found) in
    added_before old new (field_texts ws d id e) (texts_from ws d (id + 1) (drop (id + 1) es)) all _ added (ap (texts_from ws d id) here) before
