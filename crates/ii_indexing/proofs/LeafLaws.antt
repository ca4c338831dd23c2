-- What one more leaf of a JSON value stores, and why it is refused.
use Rattle.std.proofs.Common.{◌≡◌, ℕ, List, [], ◌∷◌, ◌++◌, Option, Result, sym, ap, ◌∙◌, subst, append_assoc, append-nil}
use Rattle.std.specs.List.{flat_map}
use Rattle.std.proofs.lemmas.Grind.{flat_map-append}
use Rattle.ii_io.specs.declared.faults.Fault.{Fault}
use Rattle.ii_base.specs.Json.{Leaf, text_leaf, value_leaf}
use Rattle.ii_base.specs.Schema.{SchemaEntry}
use Rattle.ii_base.specs.Values.{json_key, text_key, typed_key}
use Rattle.ii_base.specs.Words.{Word}
use Rattle.ii_base.specs.declared.schema.value_type.ValueType.{ValueType}
use Rattle.ii_base.specs.declared.schema.value_type.ValueType.TheVariants.{Json}
use Rattle.ii_definitions.specs.Fields.{option_of}
use Rattle.ii_definitions.specs.Tokens.{Piece, at_path, leaf_pieces, text_at, value_at}
use Rattle.ii_json.specs.LeafVisit.{IsRefusedBy}
use Rattle.ii_definitions.specs.IndexCalls.{Takes}
use Rattle.ii_indexing.specs.Indexer.{IndexedFieldsState, LeafGiven, StoresAll}
use Rattle.ii_indexing.specs.Refusals.{next_leaf_fault, piece_fault}
use Rattle.ii_indexing.proofs.FieldLists.{one_fault}

module _ (words : List ℕ → List Word) (doc field : ℕ) where
  abbrev given_of : List (List ℕ × Leaf) → List Piece
  given_of before = flat_map (leaf_pieces words doc field) before

  leaf_more : (ps : List Piece) (before : List (List ℕ × Leaf)) (l : List ℕ × Leaf) → (ps ++ given_of before) ++ leaf_pieces words doc field l ≡ ps ++ given_of (before ++ l ∷ [])
  leaf_more ps before l =
      append_assoc ps (given_of before) (leaf_pieces words doc field l)
      ∙ ap (λ (qs : List Piece). ps ++ qs) (ap (λ (qs : List Piece). given_of before ++ qs) (sym (append-nil (leaf_pieces words doc field l))) ∙ sym (flat_map-append (leaf_pieces words doc field) before (l ∷ [])))

  -- A leaf is stored after pieces.
  abbrev pub LeafStored : IndexedFieldsState → IndexedFieldsState → List ℕ × Leaf → Type 0
  LeafStored old new l = (entries : List SchemaEntry) (ps : List Piece) → Takes entries field Json → StoresAll entries old ps → StoresAll entries new (ps ++ leaf_pieces words doc field l)

  -- It is refused by the cause of the one text or value that it gives.
  abbrev pub PieceRefused : {T : Type 0} → IndexedFieldsState → Result T Fault → Piece → Type 0
  PieceRefused old result p = (entries : List SchemaEntry) (ps : List Piece) → Takes entries field Json → StoresAll entries old ps → IsRefusedBy (piece_fault (option_of entries field) ps p) result

  -- What leaves of a JSON value have stored.
  abbrev pub LeavesHeld : IndexedFieldsState → LeafGiven → List (List ℕ × Leaf) → Type 0
  LeavesHeld s given before = Takes given.entries field Json × StoresAll given.entries s (given.pieces ++ given_of before)

  -- A leaf is stored after the pieces, or refused.
  abbrev pub LeafTaken : IndexedFieldsState → IndexedFieldsState → List ℕ × Leaf → Type 0
  LeafTaken old new l = (given : LeafGiven) (before : List (List ℕ × Leaf)) → LeavesHeld old given before → LeavesHeld new given (before ++ l ∷ [])

  abbrev pub LeafRefused : {T : Type 0} → IndexedFieldsState → Result T Fault → List ℕ × Leaf → Type 0
  LeafRefused old result l = (given : LeafGiven) (before : List (List ℕ × Leaf)) → LeavesHeld old given before → IsRefusedBy (next_leaf_fault words (option_of given.entries field) given.pieces doc field before l) result

  pub leaf_held : (old new : IndexedFieldsState) (l : List ℕ × Leaf) → LeafStored old new l → LeafTaken old new l
  leaf_held old new l h given before held = (held.0, subst (StoresAll given.entries new) (leaf_more given.pieces before l) (h given.entries (given.pieces ++ given_of before) held.0 held.1))

  pub text_leaf_refused : {T : Type 0} (old : IndexedFieldsState) (result : Result T Fault) (path text : List ℕ) → PieceRefused old result (at_path path (text_at doc field (json_key path (text_key [])) (words text)))
      → LeafRefused old result (path, text_leaf text)
  text_leaf_refused old result path text h given before held =
      let ps = given.pieces ++ given_of before in
      subst (λ (f : Option Fault). IsRefusedBy f result) (one_fault (option_of given.entries field) ps (at_path path (text_at doc field (json_key path (text_key [])) (words text)))) (h given.entries ps held.0 held.1)

  pub value_leaf_refused : {T : Type 0} (old : IndexedFieldsState) (result : Result T Fault) (path : List ℕ) (t : ValueType) (n : ℕ) → PieceRefused old result (at_path path (value_at doc field (json_key path (typed_key t n)))) → LeafRefused old result (path, value_leaf t n)
  value_leaf_refused old result path t n h given before held =
      let ps = given.pieces ++ given_of before in
      subst (λ (f : Option Fault). IsRefusedBy f result) (one_fault (option_of given.entries field) ps (at_path path (value_at doc field (json_key path (typed_key t n))))) (h given.entries ps held.0 held.1)

-- a value's first leaf follows the pieces themselves
pub first_held : (entries : List SchemaEntry) (s : IndexedFieldsState) (ps : List Piece) → StoresAll entries s ps → StoresAll entries s (ps ++ [])
first_held entries s ps stored = subst (StoresAll entries s) (sym (append-nil ps)) stored
