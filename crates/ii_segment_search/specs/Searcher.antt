-- A search over the open segments of an index.
use Rattle.std.specs.Prelude.{◌≡◌, ℕ, ◌+◌, ◌≤◌, Bool, true, List, [], ◌∷◌, ◌++◌, Result, Ok, Err, filter, length, map}
use Rattle.std.specs.List.{AllByRecursion, AllZip, range_with_len}
use Rattle.ii_io.specs.declared.faults.Fault.{Fault}
use Rattle.ii_io.specs.declared.faults.Fault.TheVariants.{OutOfMemory}
use Rattle.ii_io.specs.declared.faults.Part.{Part}
use Rattle.ii_base.specs.Entries.{Entry, docs_of}
use Rattle.ii_base.specs.Schema.{SchemaEntry}
use Rattle.ii_base.specs.declared.doc_id.TheConstants.{TERMINATED}
use Rattle.ii_alive.specs.Alive.{num_living, rank}
use Rattle.ii_docset.specs.Cursor.{IsSound}
use Rattle.ii_query.specs.Combined.{QueryCursorState}
use Rattle.ii_reader.specs.OpenIndex.{IndexHolds, OpenIndexState}
use Rattle.ii_query_parser.specs.declared.query.Query.{Query}
use Rattle.ii_query_parser.specs.Queries.{covers_docs, has_fields, keeps_positions, matches}
use Rattle.ii_search.specs.Found.{combined, found_in}
use Rattle.ii_segments.specs.Segments.{AreSegmentTokens, Segment, index_tokens, living_docs, living_entries, num_docs_of}
use Rattle.ii_living_docs.specs.Chain.{ChainState, chained}
use Rattle.ii_living_docs.specs.LivingDocs.{LivingParts}

-- an open segment: its index, and which of its documents are alive
pub record OpenSegmentState : Type 0 where
  pub index : OpenIndexState
  pub alive : List Bool

-- how many documents of segments are alive
abbrev pub total_living : List OpenSegmentState → ℕ
total_living [] = 0
total_living (s ∷ ss) = num_living s.alive + total_living ss

-- All documents have numbers.
pub record AreFew (segments : List OpenSegmentState) : Type 0 where
  pub living : total_living segments ≤ TERMINATED
  pub each : AllByRecursion (λ (s : OpenSegmentState). length s.alive ≤ TERMINATED) segments

-- The fields of a query are fields of each segment.
abbrev pub HaveFields : Query → List OpenSegmentState → Type 0
HaveFields query segments = AllByRecursion (λ (s : OpenSegmentState). has_fields (length s.index.readers) query ≡ true) segments

-- the living documents that a query finds in segments, or the first corrupt part; given the number of the first document
abbrev pub found_from : Query → ℕ → List OpenSegmentState → Result (List Entry) Part
found_from query base [] = Ok []
found_from query base (s ∷ ss) = combined (λ (es fs : List Entry). living_entries base s.alive es ++ fs) (found_in s.index query) (found_from query (base + num_living s.alive) ss)

-- the remaining documents of a cursor over the living documents of a segment
abbrev pub living_rest : {T : Type 0} → LivingParts (QueryCursorState T) → List Entry
living_rest c = living_entries c.base c.alive c.inner.rest

-- An open segment holds the tokens of a segment.
pub record SegmentHolds (entries : List SchemaEntry) (opened : OpenSegmentState) (s : Segment) : Type 0 where
  pub index : IndexHolds entries (length s.alive) opened.index s.tokens
  pub alive : opened.alive ≡ s.alive
  pub tokens : AreSegmentTokens entries s

-- Open segments hold the tokens of segments, one by one.
abbrev pub SegmentsHold : List SchemaEntry → List OpenSegmentState → List Segment → Type 0
SegmentsHold entries opened ss = AllZip (SegmentHolds entries) opened ss

-- Entries are of exactly the documents of an index of segments that match a query, in ascending order.
abbrev pub AreFound : Query → List Segment → List Entry → Type 0
AreFound query ss es = docs_of es ≡ filter (matches query (index_tokens ss)) (range_with_len 0 (num_docs_of ss))

-- A query may be asked of an index with these fields: it has them, and phrases are over those with positions.
pub record MayAsk (entries : List SchemaEntry) (query : Query) : Type 0 where
  pub fields : has_fields (length entries) query ≡ true
  pub positions : keeps_positions entries query ≡ true

-- The living documents that a query finds in a segment come after those found before.
pub record AddsFound (query : Query) (base : ℕ) (opened : OpenSegmentState) (old new : List Entry) : Type 0 where
  pub es : List Entry
  pub found : found_in opened.index query ≡ Ok es
  pub sound : IsSound (living_entries base opened.alive es)
  pub rest : new ≡ old ++ living_entries base opened.alive es
  pub holds : (entries : List SchemaEntry) (s : Segment) → SegmentHolds entries opened s → MayAsk entries query
      → docs_of (living_entries base opened.alive es) ≡ map (λ (doc : ℕ). base + rank s.alive doc) (filter (matches query s.tokens) (living_docs s.alive))

-- Where segments hold tokens, exactly the documents that match are found; a search fails only with OutOfMemory.
abbrev pub FailsForMemory : Query → OpenSegmentState → Fault → Type 0
FailsForMemory query opened fault = (entries : List SchemaEntry) (s : Segment) → SegmentHolds entries opened s → MayAsk entries query → fault ≡ OutOfMemory

-- A cursor has exactly the documents that match, of an index of segments with at most n documents; a search fails only with OutOfMemory.
abbrev pub GivesFound : {T : Type 0} → Query → List Segment → Result (ChainState (LivingParts (QueryCursorState T))) Fault → Type 0
GivesFound query ss (Ok cursor) = AreFound query ss (chained living_rest cursor.cursors cursor.current)
GivesFound query ss (Err fault) = fault ≡ OutOfMemory

-- A number is that of the documents that match, of an index of segments; a search fails only with OutOfMemory.
abbrev pub GivesNumber : Query → List Segment → Result ℕ Fault → Type 0
GivesNumber query ss (Ok n) = n ≡ length (filter (matches query (index_tokens ss)) (range_with_len 0 (num_docs_of ss)))
GivesNumber query ss (Err fault) = fault ≡ OutOfMemory

-- What a query says of all documents reaches each document.
pub record Reaches (query : Query) (ss : List Segment) : Type 0 where
  pub limit : ℕ
  pub living : num_docs_of ss ≤ limit
  pub each : AllByRecursion (λ (s : Segment). length s.alive ≤ limit) ss
  pub covers : covers_docs limit query ≡ true
