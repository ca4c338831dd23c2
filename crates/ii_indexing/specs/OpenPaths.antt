-- The last opened document of a JSON field, path by path.
use Rattle.std.specs.Prelude.{◌≡◌, ℕ, ◌≤◌, ◌==◌, false, true, if◌then◌else◌, List, [], nat_eq, slice_get, slice_set, length, Some, unwrap_or}
use Rattle.std.specs.Map.{lookup}
use Rattle.ii_base.specs.Paths.{has_zero}
use Rattle.ii_base.specs.Values.{json_key, text_key}
use Rattle.ii_definitions.specs.Tokens.{Piece, begin_after, text_at}
use Rattle.ii_json.specs.Paths.{is_known, path_id}
use Rattle.ii_indexing.specs.Refusals.{group_count}
use Rattle.ii_postings_writer.specs.declared.indexing_position.IndexingPosition.{IndexingPosition}

-- For each path's unordered id, the number of tokens of its texts, and where the next text starts.
abbrev pub PathPositions : Type 0
PathPositions = List (ℕ × IndexingPosition)

-- the state before any text
abbrev pub no_texts : IndexingPosition
no_texts = record { num_tokens = 0; end_position = 0 }

-- the state of the texts at the path with this id
abbrev pub position_by : ℕ → PathPositions → IndexingPosition
position_by id positions = unwrap_or (lookup (nat_eq id) positions) no_texts

-- The last opened document, and its texts.
pub record OpenPathsState : Type 0 where
  pub doc : ℕ
  pub positions : PathPositions

-- the texts of a document that isn't below the open one
abbrev pub path_positions_at : ℕ → OpenPathsState → PathPositions
path_positions_at doc o = if o.doc == doc then o.positions else []

-- the state after a document is opened
abbrev pub opened_path : ℕ → OpenPathsState → OpenPathsState
opened_path doc o = record { doc = doc; positions = path_positions_at doc o }

-- document 0, without texts
abbrev pub no_paths : OpenPathsState
no_paths = record { doc = 0; positions = [] }

-- the prefix of the keys of a text at a path
abbrev pub text_prefix : List ℕ → List ℕ
text_prefix path = json_key path (text_key [])

-- the state after the pieces of a document's texts at a path
abbrev pub texts_at : ℕ → ℕ → List ℕ → List Piece → IndexingPosition
texts_at doc field path ps = let p = text_at doc field (text_prefix path) [] in record { num_tokens = group_count ps p; end_position = begin_after ps p }

-- A field's open document after pieces: the texts at each known path by its id, and none at other ids.
pub record TellsPaths (known : List (List ℕ)) (field : ℕ) (ps : List Piece) (o : OpenPathsState) : Type 0 where
  pub told : (doc : ℕ) (path : List ℕ) → o.doc ≤ doc → has_zero path ≡ false → texts_at doc field path ps ≡ position_by (path_id known path) (path_positions_at doc o)
  pub free : (id : ℕ) → length known ≤ id → position_by id o.positions ≡ no_texts

-- The state of the texts at the path with this id was replaced, in a field.
pub record PutsPosition (field id : ℕ) (position : IndexingPosition) (paths after : List OpenPathsState) (old : OpenPathsState) : Type 0 where
  pub new : OpenPathsState
  pub set : after ≡ slice_set paths field new
  pub doc : new.doc ≡ old.doc
  pub put : (other : ℕ) → position_by other new.positions ≡ (if id == other then position else position_by other old.positions)

-- `TellsPaths` holds for each field.
abbrev pub TellAllPaths : List (List ℕ) → List Piece → List OpenPathsState → Type 0
TellAllPaths known ps paths = (field : ℕ) (o : OpenPathsState) → slice_get paths field ≡ Some o → TellsPaths known field ps o

-- No open document is above `doc`.
abbrev pub PathsReachTo : ℕ → List OpenPathsState → Type 0
PathsReachTo doc paths = (field : ℕ) (o : OpenPathsState) → slice_get paths field ≡ Some o → o.doc ≤ doc

-- A path without byte 0 is known, with this id.
pub record IsKnownBy (known : List (List ℕ)) (path : List ℕ) (id : ℕ) : Type 0 where
  pub clean : has_zero path ≡ false
  pub known_is : is_known known path ≡ true
  pub id_is : path_id known path ≡ id
