-- The open segments of an index.
use Rattle.std.specs.Prelude.{◌≡◌, ℕ, List, Result, Ok, Err, Vec, length, map}
use Rattle.std.specs.Global.{Global}
use Rattle.std.specs.List.{AllByRecursion, AllZip}
use Rattle.ii_io.specs.Parts.{◌>>=◌}
use Rattle.ii_io.specs.declared.faults.Part.{Part}
use Rattle.ii_base.specs.Schema.{SchemaEntry}
use Rattle.ii_reader.specs.OpenIndex.{index_of_files}
use Rattle.ii_segment_search.specs.Searcher.{OpenSegmentState, SegmentHolds}
use Rattle.ii_segment_store.specs.Contents.{IndexContents, SegmentContents}
use Rattle.ii_segments.specs.Segments.{Segment}
use Rattle.ii_store.specs.declared.faults.IndexFault.{IndexFault}
use Rattle.nequllpa_merging.specs.HeldSegments.{HoldsSegment}
use Rattle.nequllpa_merging.specs.OpenedSegments.{totals_by_file}

-- open segments, the number of fields of their schema, and for each segment how many tokens its living documents have in each field, or the damaged part of its counts
pub record SearcherState : Type 0 where
  pub segments : List OpenSegmentState
  pub num_fields : ℕ
  pub num_tokens : List (Result (List ℕ) Part)

-- the model of the numbers of tokens of a segment
abbrev pub totals_view : Result (Vec ℕ Global) Part → Result (List ℕ) Part
totals_view (Ok totals) = Ok totals.items
totals_view (Err part) = Err part

-- how many tokens the living documents of a segment's files have in each field, or the first corrupt part
abbrev pub segment_totals : List SchemaEntry → SegmentContents → Result (List ℕ) Part
segment_totals entries c = do
  index ← index_of_files c.terms c.postings c.positions c.fieldnorms entries
  totals_by_file (length entries) index c.counts c.alive

-- Each segment has a reader for each field.
abbrev pub HaveReaders : ℕ → List OpenSegmentState → Type 0
HaveReaders n segments = AllByRecursion (λ (s : OpenSegmentState). length s.index.readers ≡ n) segments

-- A segment opens as this one: its readers are those over its files, and hold the tokens that these hold.
pub record OpensSegment (entries : List SchemaEntry) (c : SegmentContents) (o : OpenSegmentState) : Type 0 where
  pub index : index_of_files c.terms c.postings c.positions c.fieldnorms entries ≡ Ok o.index
  pub readers : length o.index.readers ≡ length entries
  pub alive : o.alive ≡ c.alive
  pub holds : (s : Segment) → HoldsSegment entries c s → SegmentHolds entries o s

-- Segments open as these, one by one.
abbrev pub OpenSegments : List SchemaEntry → List SegmentContents → List OpenSegmentState → Type 0
OpenSegments entries cs os = AllZip (OpensSegment entries) cs os

-- An index is read, and a searcher has its segments open, and their counts.
abbrev pub OpensIndex : List SchemaEntry → Result IndexContents IndexFault → SearcherState → Type 0
OpensIndex entries read s =
    (contents : IndexContents) × (read ≡ Ok contents) × OpenSegments entries contents.segments s.segments × (s.num_tokens ≡ map (segment_totals entries) contents.segments)
