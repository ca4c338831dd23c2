-- Files that hold the tokens of a segment.
use Rattle.std.specs.Prelude.{◌≡◌, ℕ, ◌<◌, IfSome, List, length, slice_index, sum, Option, None, Some}
use Rattle.std.specs.List.{AllZip}
use Rattle.ii_base.specs.Schema.{SchemaEntry}
use Rattle.ii_alive.specs.Alive.{num_living}
use Rattle.ii_counts_merger.specs.CountsSources.{CountsSourceHolds, HasCounts}
use Rattle.ii_definitions.specs.Fields.{option_of}
use Rattle.ii_definitions.specs.Files.{HoldTokens}
use Rattle.ii_definitions.specs.Norms.{HoldNorms}
use Rattle.ii_merger.specs.MergedIndex.{MergeSourceHolds}
use Rattle.ii_segment_store.specs.Contents.{SegmentContents}
use Rattle.ii_segments.specs.HoldCounts.{HoldCounts}
use Rattle.ii_segments.specs.Segments.{AreSegmentTokens, Segment, living_counts}
use Rattle.nequllpa_merging.specs.MergedSegments.{counts_source, merge_source}
use Rattle.nequllpa_merging.specs.OpenedSegments.{OpenedSegmentState}
use Rattle.nequllpa_merging.specs.StoredDocuments.{HoldsSomeDocuments}

-- A file of counts holds the counts of a segment's tokens; without one, none of its documents was deleted.
abbrev pub HasCountsOf : List SchemaEntry → Option (List ℕ) → Segment → Type 0
HasCountsOf entries None s = num_living s.alive ≡ length s.alive
HasCountsOf entries (Some bytes) s = HoldCounts entries (length s.alive) bytes s.tokens

-- The files of a segment hold its tokens, norms and counts, and a document for each flag if any are stored. Its flags are those of its documents.
pub record HoldsSegment (entries : List SchemaEntry) (c : SegmentContents) (s : Segment) : Type 0 where
  pub lists : HoldTokens (option_of entries) c.terms c.postings c.positions s.tokens
  pub norms : HoldNorms entries (length s.alive) c.fieldnorms s.tokens
  pub counts : HasCountsOf entries c.counts s
  pub store : HoldsSomeDocuments c.store (length s.alive)
  pub alive : c.alive ≡ s.alive
  pub are : AreSegmentTokens entries s

-- The files of segments hold their tokens, one by one.
abbrev pub HoldSegments : List SchemaEntry → List SegmentContents → List Segment → Type 0
HoldSegments entries cs ss = AllZip (HoldsSegment entries) cs ss

-- An open segment has a reader and a number of tokens for each field and, if it has counts, one for each document.
pub record IsOpenedFor (entries : List SchemaEntry) (o : OpenedSegmentState) : Type 0 where
  pub readers : length o.index.readers ≡ length entries
  pub totals : length o.num_tokens ≡ length entries
  pub counted : IfSome o.counts (λ bodies. (field : ℕ) → field < length entries → HasCounts field (counts_source bodies o))

-- An open segment holds the tokens of a segment, and knows how many the living documents have in each field.
pub record OpenedHolds (entries : List SchemaEntry) (o : OpenedSegmentState) (s : Segment) : Type 0 where
  pub source : MergeSourceHolds entries (merge_source o) s
  pub counts : IfSome o.counts (λ bodies. CountsSourceHolds entries (counts_source bodies o) s)
  pub totals : (field : ℕ) → field < length entries → slice_index o.num_tokens field ≡ sum (living_counts field s)

-- Open segments hold the tokens of segments, one by one.
abbrev pub OpenedHold : List SchemaEntry → List OpenedSegmentState → List Segment → Type 0
OpenedHold entries os ss = AllZip (OpenedHolds entries) os ss
