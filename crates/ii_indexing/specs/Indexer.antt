-- What an indexer has stored of its calls.
use Rattle.std.specs.Prelude.{◌≡◌, ℕ, ◌<◌, ◌^◌, Bool, List, [], length, map}
use Rattle.std.specs.Borrow.{GName}
use Rattle.ii_base.specs.Schema.{SchemaEntry, keeps_norms}
use Rattle.ii_base.specs.Words.{Word}
use Rattle.ii_definitions.specs.Tokens.{Piece, tokens_after}
use Rattle.ii_indexing.specs.IndexedTerms.{IndexedTermsState, StoresTokens}
use Rattle.ii_postings_writer.specs.IndexingContext.{AllEndBy}
use Rattle.ii_indexing.specs.OpenDocuments.{OpenDocumentsState, ReachTo, TellsAll, with_norms}
use Rattle.ii_indexing.specs.OpenPaths.{OpenPathsState, PathsReachTo, TellAllPaths}
use Rattle.ii_indexing.specs.Refusals.{known_paths}

-- The terms of all fields, the open document of each, and its state path by path.
pub record IndexedFieldsState : Type 0 where
  pub indexed : IndexedTermsState
  pub opened : OpenDocumentsState
  pub paths : List OpenPathsState

-- Texts and values are stored: their tokens, the state of each field's open document, and earlier norms.
pub record StoresPieces (entries : List SchemaEntry) (s : IndexedFieldsState) (ps : List Piece) : Type 0 where
  pub tokens : StoresTokens entries s.indexed (tokens_after [] ps)
  pub documents : TellsAll ps (tokens_after [] ps) s.opened
  pub paths : TellAllPaths s.indexed.paths ps s.paths

-- `StoresPieces` holds, and exactly the paths of the pieces are known.
pub record StoresAll (entries : List SchemaEntry) (s : IndexedFieldsState) (ps : List Piece) : Type 0 where
  pub pieces : StoresPieces entries s ps
  pub known : s.indexed.paths ≡ known_paths ps

-- Each field has an open document, and no document is above `doc`.
pub record EndsAt (doc : ℕ) (s : IndexedFieldsState) : Type 0 where
  pub documents : length s.opened.documents ≡ length s.indexed.writers
  pub terms : AllEndBy doc s.indexed.terms
  pub reach : ReachTo doc s.opened
  pub paths : length s.paths ≡ length s.indexed.writers
  pub paths_reach : PathsReachTo doc s.paths

-- An indexer: its schema, number of documents, last document, stored content, and whether a call failed.
pub record IndexerState : Type 0 where
  pub schema : List SchemaEntry
  pub num_docs : ℕ
  pub last_doc : ℕ
  pub fields : IndexedFieldsState
  pub failed : Bool

-- Some pieces are stored.
pub record StoresSome (entries : List SchemaEntry) (s : IndexedFieldsState) : Type 0 where
  pub pieces : List Piece
  pub stored : StoresAll entries s pieces

-- What holds of fields while no call has failed; if there are terms, `last_doc` is below `num_docs`.
pub record AreRunning (entries : List SchemaEntry) (num_docs last_doc : ℕ) (s : IndexedFieldsState) : Type 0 where
  pub few : length entries < 2 ^ 32
  pub ends : EndsAt last_doc s
  pub below : 0 < length s.indexed.terms → last_doc < num_docs
  pub writers : length s.indexed.writers ≡ length entries
  pub norms : with_norms s.opened.norms ≡ map keeps_norms entries
  pub some : StoresSome entries s

-- What was indexed before the leaves of a JSON value: pieces, in fields of a schema.
pub record LeafGiven : Type 0 where
  pub entries : List SchemaEntry
  pub pieces : List Piece

-- What stays while leaves are indexed: document, field, analysis, borrow, number of fields, which have norms.
pub record LeafConstant : Type 0 where
  pub doc : ℕ
  pub field : ℕ
  pub words : List ℕ → List Word
  pub reference : GName
  pub writers : ℕ
  pub norms : List Bool

-- Texts and values are stored, whichever analyzers made their words.
abbrev pub Stores : IndexerState → List Piece → Type 0
Stores s ps = StoresAll s.schema s.fields ps
