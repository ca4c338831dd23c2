-- The files that segments are merged into, of whatever bytes, and why they can't be merged.
use Rattle.std.specs.Prelude.{◌≡◌, ℕ, ◌<◌, ◌≤◌, ◌-◌, ◌^◌, ◌⊎◌, IsSomeAnd, List, [], ◌∷◌, length, map, slice_index, sum, Option, None, Some}
use Rattle.std.specs.List.{AllZip, range_with_len}
use Rattle.ii_io.specs.Composite.{Body, written_composite}
use Rattle.ii_io.specs.declared.faults.Fault.{Fault}
use Rattle.ii_io.specs.declared.faults.Fault.TheVariants.{Limit, OutOfMemory}
use Rattle.ii_io.specs.declared.faults.LimitName.TheVariants as limit
use Rattle.ii_io.specs.Faults.{memory_fault}
use Rattle.ii_base.specs.Schema.{SchemaEntry}
use Rattle.ii_base.specs.declared.doc_id.TheConstants.{TERMINATED}
use Rattle.ii_counts.specs.CountsWriter.{HoldRows, IsRowsFault}
use Rattle.ii_counts_merger.specs.CountsSources.{CountsSourceState, merged_rows}
use Rattle.ii_indexing.specs.RamFiles.{empty_files}
use Rattle.ii_merger.specs.MergedFiles.{IsMergeFault, merging_of}
use Rattle.ii_merger.specs.MergedIndex.{AreMergedParts, MergeSourceState, MergedPart, Merging, all_living, positions_body_of, postings_body_of, terms_body_of}
use Rattle.ii_merger.specs.MergedNorms.{HaveNorms, merged_norm_bytes}
use Rattle.ii_segment_store.specs.Contents.{SegmentContents}
use Rattle.nequllpa_merging.specs.OpenedSegments.{IsFirstDamaged, OpenedSegmentState, OpensFrom}
use Rattle.nequllpa_merging.specs.StoredDocuments.{HasMergedStore, IsStoresFault, stored_file}
use Rattle.nequllpa_merging.specs.declared.faults.MergeFault.{MergeFault}
use Rattle.nequllpa_merging.specs.declared.faults.MergeFault.TheVariants.{LongDocument, Merge, Read, Segment, Store, TooManyDocuments, TooManyFields}

-- the lists and norms of an open segment, as they are merged
abbrev pub merge_source : OpenedSegmentState → MergeSourceState
merge_source o = record { index = o.index; alive = o.alive }

-- the counts of an open segment, as they are merged
abbrev pub counts_source : List Body → OpenedSegmentState → CountsSourceState
counts_source bodies o = record { counts = bodies; alive = o.alive }

-- a list with one more at its start, if there are both
abbrev pub with_first : Option CountsSourceState → Option (List CountsSourceState) → Option (List CountsSourceState)
with_first None sources = None
with_first (Some source) None = None
with_first (Some source) (Some sources) = Some (source ∷ sources)

-- the counts of an open segment, if it has some
abbrev pub counts_source_if : Option (List Body) → OpenedSegmentState → Option CountsSourceState
counts_source_if None o = None
counts_source_if (Some bodies) o = Some (counts_source bodies o)

-- the counts of open segments, if each has some
abbrev pub counts_sources : List OpenedSegmentState → Option (List CountsSourceState)
counts_sources [] = Some []
counts_sources (o ∷ os) = with_first (counts_source_if o.counts o) (counts_sources os)

-- how many tokens the living documents of open segments have in a field
abbrev pub total_of : ℕ → List OpenedSegmentState → ℕ
total_of field os = sum (map (λ (o : OpenedSegmentState). slice_index o.num_tokens field) os)

-- the same in each of n fields
abbrev pub totals_of : ℕ → List OpenedSegmentState → List ℕ
totals_of n os = map (λ (field : ℕ). total_of field os) (range_with_len 0 n)

-- what is merged of open segments
abbrev pub merging : List SchemaEntry → List OpenedSegmentState → Merging
merging entries os = merging_of entries (totals_of (length entries) os) (map merge_source os)

-- The merged file of counts in n fields: there is one if each segment has one.
abbrev pub HasMergedCounts : ℕ → Option (List CountsSourceState) → Option (List ℕ) → Type 0
HasMergedCounts n None counts = counts ≡ None
HasMergedCounts n (Some sources) counts = IsSomeAnd counts (HoldRows (merged_rows n sources))

-- The files of a segment, but for stored documents, are those that open segments are merged into.
pub record AreMergedFiles (entries : List SchemaEntry) (os : List OpenedSegmentState) (f : SegmentContents) : Type 0 where
  pub num_docs : f.num_docs ≡ all_living (map merge_source os)
  pub parts : List MergedPart
  pub are : AreMergedParts (merging entries os) (length entries) parts
  pub terms : f.terms ≡ written_composite (map terms_body_of parts)
  pub postings : f.postings ≡ written_composite (map postings_body_of parts)
  pub positions : f.positions ≡ written_composite (map positions_body_of parts)
  pub have_norms : HaveNorms entries (map merge_source os)
  pub fieldnorms : f.fieldnorms ≡ merged_norm_bytes entries (map merge_source os)
  pub counts : HasMergedCounts (length entries) (counts_sources os) f.counts

-- All segments open, and the files of a segment are those that they are merged into.
pub record IsMergedFrom (entries : List SchemaEntry) (cs : List SegmentContents) (f : SegmentContents) : Type 0 where
  pub opened : List OpenedSegmentState
  pub opens : AllZip (OpensFrom entries) cs opened
  pub files : AreMergedFiles entries opened f
  pub store : HasMergedStore (map stored_file cs) f.store

-- A field has 2^64 tokens or more.
pub record HasTooManyTokens (entries : List SchemaEntry) (os : List OpenedSegmentState) : Type 0 where
  pub field : ℕ
  pub known : field < length entries
  pub many : 2 ^ 64 ≤ total_of field os

-- Why the files of counts can't be merged.
abbrev pub IsCountsFault : ℕ → Option (List CountsSourceState) → Fault → Type 0
IsCountsFault n None fault = ⊥
IsCountsFault n (Some sources) fault = IsRowsFault (merged_rows n sources) fault

-- Why lists and norms can't be merged to memory, where only allocations fail to be written.
pub record IsListsFault (entries : List SchemaEntry) (os : List OpenedSegmentState) (fault : Fault) : Type 0 where
  pub cause : Fault
  pub is : IsMergeFault {W = ℕ} (merging entries os) empty_files cause
  pub in_memory : fault ≡ memory_fault cause

-- Why open segments can't be merged.
abbrev pub IsOpenMergeFault : List SchemaEntry → List OpenedSegmentState → Fault → Type 0
IsOpenMergeFault entries os fault =
    (fault ≡ OutOfMemory) ⊎ ((fault ≡ Limit limit.Tokens) × HasTooManyTokens entries os)
    ⊎ IsCountsFault (length entries) (counts_sources os) fault ⊎ IsListsFault entries os fault

-- Why open segments aren't merged.
abbrev pub IsOpenedFault : MergeFault → List SchemaEntry → List OpenedSegmentState → Type 0
IsOpenedFault (Segment place part) entries os = ⊥
IsOpenedFault (Store place damage) entries os = ⊥
IsOpenedFault (Read place fault) entries os = ⊥
IsOpenedFault (LongDocument place) entries os = ⊥
IsOpenedFault TooManyDocuments entries os = TERMINATED < all_living (map merge_source os)
IsOpenedFault TooManyFields entries os = 2 ^ 32 - 1 ≤ length entries
IsOpenedFault (Merge fault) entries os = IsOpenMergeFault entries os fault

-- All segments open, but aren't merged.
pub record IsOpenedRefusal (fault : MergeFault) (entries : List SchemaEntry) (cs : List SegmentContents) : Type 0 where
  pub opened : List OpenedSegmentState
  pub opens : AllZip (OpensFrom entries) cs opened
  pub cause : IsOpenedFault fault entries opened

-- Why segments don't open.
abbrev pub IsOpeningFault : MergeFault → List SchemaEntry → List SegmentContents → Type 0
IsOpeningFault (Segment place part) entries cs = IsFirstDamaged entries cs place part
IsOpeningFault (Store place damage) entries cs = ⊥
IsOpeningFault (Read place fault) entries cs = ⊥
IsOpeningFault (LongDocument place) entries cs = ⊥
IsOpeningFault TooManyDocuments entries cs = ⊥
IsOpeningFault TooManyFields entries cs = ⊥
IsOpeningFault (Merge fault) entries cs = fault ≡ OutOfMemory

-- Why segments aren't merged: stored documents come last.
abbrev pub IsMergingFault : List SchemaEntry → List SegmentContents → MergeFault → Type 0
IsMergingFault entries cs fault = IsOpeningFault fault entries cs ⊎ IsOpenedRefusal fault entries cs ⊎ IsStoresFault (map stored_file cs) fault
