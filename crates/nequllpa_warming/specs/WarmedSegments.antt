-- Segments of which what a query reads is open.
use Rattle.std.specs.Prelude.{◌≡◌, ℕ, Bool, false, true, ◌||◌, List, ◌∷◌, ◌++◌, Option, None, Some, is_none, length}
use Rattle.ii_base.specs.Schema.{SchemaEntry}
use Rattle.ii_file_slice.specs.FileSlice.{IsTableOf, bytes_if}
use Rattle.ii_query_parser.specs.declared.query.Query.{Query}
use Rattle.ii_reader.specs.OpenIndex.{OpenIndexState}
use Rattle.ii_open_segments.specs.OpenFiles.{OpenFileState}
use Rattle.ii_open_segments.specs.OpenSegments.{OpenSegmentState}
use Rattle.ii_warmup.specs.IndexParts.{HaveNormsFor, HoldIndex, IsWarmupFault, requests}
use Rattle.ii_warmup.specs.Parts.{IsPartFor}
use Rattle.ii_warmup.specs.QueryTerms.{query_ranges, requested_terms}
use Rattle.ii_warmup.specs.declared.scoring.EnableScoring.{EnableScoring}
use Rattle.nequllpa_opening.specs.Stored.{IsSchemaRefusal}
use Rattle.nequllpa_warming.specs.declared.faults.WarmupFault.{WarmupFault}
use Rattle.nequllpa_warming.specs.declared.faults.WarmupFault.TheVariants.{File, NoTables, Open}
use Rattle.nequllpa_opening.specs.declared.opened.Opened.{Opened}

-- the bytes of an open file, if they are known, and as many as its table says
abbrev pub known_bytes : Option OpenFileState → Option (List ℕ)
known_bytes None = None
known_bytes (Some f) = bytes_if f.table f.bytes

-- The table of an open file is that of its bytes, where they are known.
abbrev pub HasItsTable : Option OpenFileState → Type 0
HasItsTable None = ⊥
HasItsTable (Some f) = IsTableOf f.table f.bytes

-- whether a file of a segment isn't open
abbrev pub lacks_file : OpenSegmentState → Bool
lacks_file s = is_none s.terms || (is_none s.postings || (is_none s.positions || is_none s.fieldnorms))

-- The bytes of a segment's files are known, and hold this index.
abbrev pub SegmentHolds : OpenSegmentState → List SchemaEntry → OpenIndexState → Type 0
SegmentHolds s entries whole = HoldIndex (known_bytes s.terms) (known_bytes s.postings) (known_bytes s.positions) (known_bytes s.fieldnorms) entries whole

-- The files of a segment are as their tables say.
pub record HasItsTables (s : OpenSegmentState) : Type 0 where
  pub terms : HasItsTable s.terms
  pub postings : HasItsTable s.postings
  pub positions : HasItsTable s.positions
  pub fieldnorms : HasItsTable s.fieldnorms

-- Of a segment, whose files are open, what a query reads is open: where these hold an index, what the query reads of this one, and the norms if the search ranks.
pub record WarmsAs (entries : List SchemaEntry) (query : Query) (scoring : EnableScoring) (s : OpenSegmentState) (o : Opened) : Type 0 where
  pub complete : lacks_file s ≡ false
  pub schema : o.schema ≡ entries
  pub docs : o.num_docs ≡ s.num_docs
  pub alive : o.alive ≡ s.alive
  pub counts : o.counts ≡ None
  pub store : o.store ≡ None
  pub part : (whole : OpenIndexState) → SegmentHolds s entries whole → IsPartFor query o.index whole
  pub norms : (whole : OpenIndexState) → SegmentHolds s entries whole → HaveNormsFor scoring (requested_terms query) (query_ranges query) (length entries) o.index.fieldnorms whole.fieldnorms

-- Why what a query reads of a segment can't be opened.
abbrev pub IsWarmupRefusal : List ℕ → List SchemaEntry → Query → OpenSegmentState → WarmupFault → Type 0
IsWarmupRefusal bytes entries query s NoTables = lacks_file s ≡ true
IsWarmupRefusal bytes entries query s (Open fault) = IsSchemaRefusal bytes fault
IsWarmupRefusal bytes entries query s (File fault) = (whole : OpenIndexState) → SegmentHolds s entries whole → HasItsTables s → IsWarmupFault (requests query) whole.readers fault

-- A property holds of one of some segments.
pub record HoldsOfOne (P : OpenSegmentState → Type 0) (all : List OpenSegmentState) : Type 0 where
  pub before : List OpenSegmentState
  pub segment : OpenSegmentState
  pub after : List OpenSegmentState
  pub whole : before ++ segment ∷ after ≡ all
  pub holds : P segment
