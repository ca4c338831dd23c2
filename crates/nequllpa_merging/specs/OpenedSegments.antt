-- Segments whose files are opened to be merged.
use Rattle.std.specs.Prelude.{◌≡◌, ℕ, ◌==◌, Bool, List, length, map, slice_get, slice_index, sum, take, Option, None, Some, Result, Ok, Err, ok_or, if◌then◌else◌}
use Rattle.std.specs.List.{AllByRecursion, range_with_len}
use Rattle.std.specs.Option.{option_map}
use Rattle.ii_io.specs.declared.faults.Part.{Part}
use Rattle.ii_io.specs.declared.faults.Part.TheVariants.{Composite, TokenCount}
use Rattle.ii_io.specs.Composite.{Body, composite}
use Rattle.ii_io.specs.Parts.{◌>>=◌}
use Rattle.ii_base.specs.Schema.{SchemaEntry}
use Rattle.ii_alive.specs.Alive.{num_living}
use Rattle.ii_counts_merger.specs.CountsSources.{counts_of_source}
use Rattle.ii_reader.specs.InvertedIndexReader.{InvertedIndexReaderState}
use Rattle.ii_reader.specs.OpenIndex.{OpenIndexState, all_or_first, index_of_files}
use Rattle.ii_segment_store.specs.Contents.{SegmentContents}
use Rattle.ii_segments.specs.Segments.{living_docs}
use Rattle.nequllpa_merging.specs.declared.opening.OpenedSegment.{OpenedSegment}

-- an open segment: its readers and norms, its counts if it has some, which documents are alive, and how many tokens these have in each field
pub record OpenedSegmentState : Type 0 where
  pub index : OpenIndexState
  pub counts : Option (List Body)
  pub alive : List Bool
  pub num_tokens : List ℕ

-- the model of an open segment
abbrev pub opened_view : {F : Type 0} → OpenedSegment F → OpenedSegmentState
opened_view o = record { index = o.index; counts = o.counts; alive = o.alive; num_tokens = o.num_tokens.items }

-- the bodies of a file of counts, if there is one, or Composite
abbrev pub bodies_of_counts : Option (List ℕ) → Result (Option (List Body)) Part
bodies_of_counts None = Ok None
bodies_of_counts (Some bytes) = ok_or (option_map (λ (bodies : List Body). Some bodies) (composite bytes)) Composite

-- the number of tokens in a reader, if there is one
abbrev pub tokens_of_reader : Option InvertedIndexReaderState → Option ℕ
tokens_of_reader reader = option_map (λ (r : InvertedIndexReaderState). r.num_tokens) reader

-- how many tokens the living documents of a segment have in a field: by its counts; without counts it is known if none was deleted
abbrev pub living_total : ℕ → OpenIndexState → Option (List Body) → List Bool → Option ℕ
living_total field index (Some bodies) alive = option_map (λ (counts : List ℕ). sum (map (slice_index counts) (living_docs alive))) (counts_of_source field (record { counts = bodies; alive = alive }))
living_total field index None alive = if num_living alive == length alive then tokens_of_reader (slice_get index.readers field) else None

-- how many tokens the living documents of a segment have in each of n fields, or TokenCount
abbrev pub living_totals : ℕ → OpenIndexState → Option (List Body) → List Bool → Result (List ℕ) Part
living_totals n index counts alive = all_or_first (map (λ (field : ℕ). ok_or (living_total field index counts alive) TokenCount) (range_with_len 0 n))

-- the same by the bytes of a file of counts, if there is one, or the first corrupt part
abbrev pub totals_by_file : ℕ → OpenIndexState → Option (List ℕ) → List Bool → Result (List ℕ) Part
totals_by_file n index file alive = do
  counts ← bodies_of_counts file
  living_totals n index counts alive

-- a segment over its files, or its first damaged part: lists and norms come before counts
unfoldable pub opened_from : List SchemaEntry → SegmentContents → Result OpenedSegmentState Part
opened_from entries c = do
  index ← index_of_files c.terms c.postings c.positions c.fieldnorms entries
  counts ← bodies_of_counts c.counts
  num_tokens ← living_totals (length entries) index counts c.alive
  Ok (record { index = index; counts = counts; alive = c.alive; num_tokens = num_tokens })

-- A segment opens as this one.
abbrev pub OpensFrom : List SchemaEntry → SegmentContents → OpenedSegmentState → Type 0
OpensFrom entries c o = opened_from entries c ≡ Ok o

-- A segment opens.
abbrev pub IsOpenable : List SchemaEntry → SegmentContents → Type 0
IsOpenable entries c = (o : OpenedSegmentState) × OpensFrom entries c o

-- The segment at a place doesn't open because of a part, and those before it open.
pub record IsFirstDamaged (entries : List SchemaEntry) (cs : List SegmentContents) (place : ℕ) (part : Part) : Type 0 where
  pub segment : SegmentContents
  pub found : slice_get cs place ≡ Some segment
  pub damaged : opened_from entries segment ≡ Err part
  pub before : AllByRecursion (IsOpenable entries) (take place cs)
